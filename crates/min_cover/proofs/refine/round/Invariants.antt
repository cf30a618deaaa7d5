use Rattle.std.proofs.Common.{◌≡◌, ◌≤◌, length}
use Rattle.std.specs.Prelude.{slice_index}
use Rattle.min_cover.specs.inside.Search.{sign_of}
use Rattle.min_cover.specs.inside.Found.{next_in}
use Rattle.min_cover.specs.inside.Classes.{IsNumberedSoFar, rows_of, width_of}
use Rattle.min_cover.proofs.refine.round.Given as goal

abbrev pub invariant-loop-state : goal.invariant-loop-state
invariant-loop-state l = record {
  size : length l.of.items ≡ l.state;
  few : length l.signs.keys ≤ l.state;
  numbered : IsNumberedSoFar (sign_of (next_in (rows_of l.rows)) (width_of (rows_of l.rows)) (slice_index l.classes)) l.signs.keys l.of.items l.firsts.items;
}
