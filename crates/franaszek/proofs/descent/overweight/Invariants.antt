use Rattle.std.proofs.Common.{ℕ, ◌*◌, ◌<◌, ◌≤◌, get_or}
use Rattle.franaszek.proofs.descent.overweight.Given as goal

abbrev pub invariant-loop-state : goal.invariant-loop-state
invariant-loop-state l = (k : ℕ) → k < l.state → l.n * get_or l.weights k 0 ≤ get_or l.sums k 0
