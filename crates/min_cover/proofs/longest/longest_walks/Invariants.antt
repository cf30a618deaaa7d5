use Rattle.std.proofs.Common.{◌≡◌, ℕ, ◌<◌, ◌≤◌, length}
use Rattle.min_cover.specs.inside.Pairs.{pair_count, pair_step}
use Rattle.min_cover.specs.inside.Finishing.{number_at}
use Rattle.min_cover.specs.inside.Order.{IsLongest}
use Rattle.min_cover.proofs.longest.longest_walks.Given as goal

abbrev pub invariant-loop-place : goal.invariant-loop-place
invariant-loop-place l = record {
  sized : length l.longest.items ≡ pair_count l.pairs.graph;
  small : (pair : ℕ) → number_at l.longest.items pair ≤ l.place;
  longest : (i : ℕ) → i < l.place
      → IsLongest (pair_step l.pairs.graph) (number_at l.order.finished.items i) (number_at l.longest.items (number_at l.order.finished.items i));
}
