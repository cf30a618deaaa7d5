use Rattle.std.proofs.Common.{◌≡◌, ◌-◌, ◌≤◌, length, take}
use Rattle.std.specs.Prelude.{option_map}
use Rattle.shelf_io.specs.WholeFile.{all_appended}
use Rattle.shelf_io.proofs.whole_files.put_all.Given as goal

abbrev pub invariant-loop-at : goal.invariant-loop-at
invariant-loop-at g l = record {
  within : l.at ≤ length l.bytes;
  put : g.F.Shelf.files l.shelf ≡ option_map (all_appended l.name (take l.at l.bytes)) (g.F.Shelf.files l.initial.shelf);
  count : g.F.Shelf.faults l.shelf ≡ g.F.Shelf.faults l.initial.shelf;
}

abbrev pub decreases-loop-at : goal.decreases-loop-at
decreases-loop-at g l = length l.bytes - l.at
