use Rattle.gf256.specs.Linear.{matrix}
use Rattle.gf256.proofs.RowSteps.{Clearing}
use Rattle.gf256.proofs.linear.clear_others.Given as goal

abbrev pub invariant-loop-i : goal.invariant-loop-i
invariant-loop-i g l = Clearing l.column l.i (matrix l.fn.rows) (matrix l.rows)
