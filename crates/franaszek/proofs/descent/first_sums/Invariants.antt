use Rattle.std.proofs.Common.{◌≡◌, ℕ, ◌<◌, length, get_or, replicate}
use Rattle.label_graphs.specs.Vector.{row_sum}
use Rattle.franaszek.proofs.descent.first_sums.Given as goal

abbrev pub invariant-loop-state : goal.invariant-loop-state
invariant-loop-state l = record {
  size : length l.sums.items ≡ l.state;
  each : (k : ℕ) → k < l.state → get_or l.sums.items k 0 ≡ row_sum l.matrix (replicate (length l.matrix) l.bound) k;
}
