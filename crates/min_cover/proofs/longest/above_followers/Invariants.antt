use Rattle.std.proofs.Common.{◌≡◌, ℕ, ◌+◌, ◌^◌, ◌<◌, ◌≤◌, ◌⊎◌}
use Rattle.min_cover.specs.inside.Pairs.{pair_step, Leads}
use Rattle.min_cover.specs.inside.Finishing.{number_at}
use Rattle.min_cover.proofs.longest.above_followers.Given as goal

abbrev pub invariant-loop-symbol : goal.invariant-loop-symbol
invariant-loop-symbol l = record {
  fits : l.above ≤ 2 ^ 32;
  all : (symbol there : ℕ) → symbol < l.symbol → Leads (pair_step l.pairs.graph) l.pair symbol there → number_at l.values there < l.above;
  some : (l.above ≡ 0) ⊎ ((symbol : ℕ) × (there : ℕ) × Leads (pair_step l.pairs.graph) l.pair symbol there × (number_at l.values there + 1 ≡ l.above));
}
