use Rattle.std.proofs.Common.{◌-◌, length}
use Rattle.std.specs.Prelude.{slice_index}
use Rattle.min_cover.specs.inside.Search.{sign_of}
use Rattle.min_cover.specs.inside.Found.{next_in}
use Rattle.min_cover.specs.inside.Classes.{IsToldApart, IsClassedBy, rows_of, width_of}
use Rattle.min_cover.proofs.refine.refine.Given as goal

abbrev pub invariant-rounds : goal.invariant-rounds
invariant-rounds l = record {
  apart : IsToldApart (next_in (rows_of l.rows)) (length l.rows) l.classes.of.items l.classes.firsts.items;
  finer : IsClassedBy (sign_of (next_in (rows_of l.rows)) (width_of (rows_of l.rows)) (slice_index l.classes.of.items)) (length l.rows)
      l.finer.of.items l.finer.firsts.items;
}

abbrev pub decreases-rounds : goal.decreases-rounds
decreases-rounds l = length l.rows - length l.classes.firsts.items
