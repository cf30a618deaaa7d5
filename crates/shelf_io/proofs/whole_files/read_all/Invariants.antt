use Rattle.std.proofs.Common.{◌≡◌, ◌+◌, ◌-◌, ◌≤◌, length, take, vec_len}
use Rattle.std.specs.Prelude.{IfSome}
use Rattle.shelf_io.specs.Reads.{HasRead, whole_room}
use Rattle.shelf_io.specs.Shelf.{content}
use Rattle.shelf_io.proofs.whole_files.read_all.Given as goal

abbrev pub invariant-loop-count : goal.invariant-loop-count
invariant-loop-count g l = record {
  front : IfSome (g.F.Shelf.files l.initial.shelf) (λ files. l.bytes.items ≡ take (vec_len l.bytes) (content files l.name));
  within : vec_len l.bytes ≤ l.limit;
  same : g.F.Shelf.files l.shelf ≡ g.F.Shelf.files l.initial.shelf;
  asked : length l.room ≡ whole_room;
  run : HasRead g.F.Shelf.read_gives l.name whole_room l.initial.shelf (vec_len l.bytes) l.shelf;
  count : g.F.Shelf.faults l.shelf ≡ g.F.Shelf.faults l.initial.shelf;
}

abbrev pub decreases-loop-count : goal.decreases-loop-count
decreases-loop-count g l = l.limit + 1 - vec_len l.bytes
