use Rattle.std.proofs.Common.{◌≡◌, ◌≢◌, ℕ, ◌<◌, []}
use Rattle.min_cover.specs.declared.finishing.Mark.TheVariants.{New}
use Rattle.min_cover.specs.inside.Pairs.{pair_count, pair_step}
use Rattle.min_cover.specs.inside.Finishing.{search_data, mark_at, IsSearch}
use Rattle.min_cover.proofs.finishing.finishing_order.Given as goal

abbrev pub invariant-loop-start : goal.invariant-loop-start
invariant-loop-start l = record {
  search : IsSearch (pair_step l.pairs.graph) (pair_count l.pairs.graph) l.pairs.alphabet 0 (search_data l.search);
  path : l.search.path.items ≡ [];
  known : (p : ℕ) → p < l.start → mark_at l.search.marks.items p ≢ New;
}
