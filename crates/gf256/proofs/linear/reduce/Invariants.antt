use Rattle.std.proofs.Common.{◌≡◌, ◌<◌}
use Rattle.gf256.specs.Linear.{matrix}
use Rattle.gf256.specs.Elimination.{HasElements, HasUnitColumns, SameNullSpace}
use Rattle.gf256.proofs.linear.reduce.Given as goal

abbrev pub invariant-loop-column : goal.invariant-loop-column
invariant-loop-column g l = record {
  same : SameNullSpace (matrix l.fn.rows) (matrix l.rows);
  units : HasUnitColumns l.column (matrix l.rows);
  start : l.column ≡ 0 → l.rows ≡ l.fn.rows;
  elements_before : 0 < l.column → HasElements (matrix l.fn.rows);
  elements : 0 < l.column → HasElements (matrix l.rows);
}
