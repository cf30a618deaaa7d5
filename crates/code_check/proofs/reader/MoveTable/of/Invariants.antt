use Rattle.std.proofs.Common.{◌-◌, ◌≤◌}
use Rattle.code_check.specs.inside.CoverMoves.{IsTableOf}
use Rattle.code_check.proofs.reader.MoveTable.of.Given as goal

abbrev pub invariant-loop-table : goal.invariant-loop-table
invariant-loop-table l = record {
  short : l.table.symbols ≤ l.symbols;
  is : IsTableOf l.graph l.table;
}

abbrev pub decreases-loop-table : goal.decreases-loop-table
decreases-loop-table l = l.symbols - l.table.symbols
