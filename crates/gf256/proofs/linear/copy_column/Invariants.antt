use Rattle.std.proofs.Common.{take}
use Rattle.gf256.specs.Linear.{matrix, values}
use Rattle.gf256.specs.Elimination.{CopiesColumn}
use Rattle.gf256.proofs.linear.copy_column.Given as goal

abbrev pub invariant-loop-i : goal.invariant-loop-i
invariant-loop-i g l = CopiesColumn l.column (take l.i (matrix l.rows)) (values l.fn.vector) (values l.vector)
