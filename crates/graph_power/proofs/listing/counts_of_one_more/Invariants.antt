use Rattle.std.proofs.Common.{◌≡◌, ℕ, ◌<◌, length, get_or, []}
use Rattle.graph_power.specs.inside.Words.{target_total}
use Rattle.graph_power.proofs.listing.counts_of_one_more.Given as goal

abbrev pub invariant-loop-state : goal.invariant-loop-state
invariant-loop-state l = record {
  size : length l.more.items ≡ l.state;
  each : (from : ℕ) → from < l.state → get_or l.more.items from 0 ≡ target_total (λ to. get_or l.counts to 0) (get_or l.cover.graph from []);
}
