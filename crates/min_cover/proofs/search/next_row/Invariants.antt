use Rattle.std.proofs.Common.{◌≡◌, ◌≤◌, length, map}
use Rattle.min_cover.specs.inside.Found.{IsFoundSoFar}
use Rattle.min_cover.proofs.search.next_row.Given as goal

abbrev pub invariant-loop-symbol : goal.invariant-loop-symbol
invariant-loop-symbol l = record {
  few : length l.found.keys ≤ 4096;
  kept : length l.initial.found.keys ≤ length l.found.keys;
  width : length l.row.items ≡ l.symbol;
  so_far : IsFoundSoFar l.constraint l.found.keys (map (λ row. row.items) l.rows) l.row.items;
}
