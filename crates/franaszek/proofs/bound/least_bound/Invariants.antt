use Rattle.std.proofs.Common.{ℕ, ◌-◌, ◌<◌, ◌≤◌, List, length}
use Rattle.std.specs.List.{sum}
use Rattle.label_graphs.specs.Vector.{IsGreatest, IsVector, row_sum}
use Rattle.franaszek.proofs.bound.least_bound.Given as goal

abbrev pub invariant-loop-high : goal.invariant-loop-high
invariant-loop-high l = record {
  order : l.low < l.high;
  within : l.high ≤ l.bound;
  best : IsGreatest (row_sum l.matrix) (length l.matrix) l.n l.high l.best;
  some : 0 < sum l.best;
  none : (x : List ℕ) → IsVector (row_sum l.matrix) (length l.matrix) l.n l.low x → ⊥;
}

abbrev pub decreases-loop-high : goal.decreases-loop-high
decreases-loop-high l = l.high - l.low
