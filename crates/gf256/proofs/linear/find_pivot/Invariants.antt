use Rattle.std.proofs.Common.{◌≡◌, ℕ, ◌<◌, ◌≤◌}
use Rattle.gf256.specs.Linear.{matrix}
use Rattle.gf256.specs.Elimination.{entry}
use Rattle.gf256.proofs.linear.find_pivot.Given as goal

abbrev pub invariant-loop-i : goal.invariant-loop-i
invariant-loop-i g l = (k : ℕ) → l.column ≤ k → k < l.i → entry (matrix l.rows) k l.column ≡ 0
