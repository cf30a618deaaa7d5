use Rattle.std.proofs.Common.{◌≡◌, ℕ, ◌<◌, length}
use Rattle.min_cover.specs.inside.Pairs.{pair_step, Leads}
use Rattle.min_cover.specs.inside.Finishing.{number_at}
use Rattle.min_cover.specs.inside.Order.{AreSpanned}
use Rattle.min_cover.proofs.cycles.spanned_places.Given as goal

abbrev pub invariant-loop-place : goal.invariant-loop-place
invariant-loop-place l = record {
  sized : length l.spanned.items ≡ l.place;
  far : (i symbol there : ℕ) → i < l.place → Leads (pair_step l.pairs.graph) (number_at l.order.finished.items i) symbol there
      → number_at l.order.places.items there < l.end;
  known : AreSpanned (pair_step l.pairs.graph) l.order.finished.items l.order.places.items l.spanned.items;
}
