use Rattle.std.proofs.Common.{◌≢◌}
use Rattle.min_cover.specs.declared.finishing.Mark.TheVariants.{New}
use Rattle.min_cover.specs.inside.Pairs.{pair_count, pair_step}
use Rattle.min_cover.specs.inside.Finishing.{search_data, mark_at, IsSearch, KeepsKnown, weight}
use Rattle.min_cover.proofs.finishing.Search.finish_all.Given as goal

abbrev pub invariant-loop-visit : goal.invariant-loop-visit
invariant-loop-visit l = record {
  search : IsSearch (pair_step l.pairs.graph) (pair_count l.pairs.graph) l.pairs.alphabet 0 (search_data l.self);
  start : mark_at l.self.marks.items l.start ≢ New;
  known : KeepsKnown (search_data l.fn.self) (search_data l.self);
}

abbrev pub decreases-loop-visit : goal.decreases-loop-visit
decreases-loop-visit l = weight l.pairs.alphabet (search_data l.self)
