use Rattle.std.proofs.Common.{◌≡◌, ◌≤◌, ◌-◌, [], length, map, All}
use Rattle.min_cover.specs.inside.Found.{IsFoundSoFar}
use Rattle.min_cover.proofs.search.explore.Given as goal

abbrev pub invariant-states : goal.invariant-states
invariant-states l = record {
  few : length l.found.keys ≤ 4096;
  within : length l.rows.items ≤ length l.found.keys;
  width : All (λ row. length row ≡ l.constraint.alphabet) (map (λ row. row.items) l.rows.items);
  so_far : IsFoundSoFar l.constraint l.found.keys (map (λ row. row.items) l.rows.items) [];
}

abbrev pub decreases-states : goal.decreases-states
decreases-states l = 4096 - length l.rows.items
