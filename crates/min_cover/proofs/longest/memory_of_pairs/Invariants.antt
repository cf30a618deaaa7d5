use Rattle.std.proofs.Common.{◌≡◌, ◌≢◌, ℕ, ◌+◌, ◌/◌, ◌%◌, ◌<◌, ◌≤◌, ◌⊎◌, length}
use Rattle.min_cover.specs.inside.Pairs.{pair_count}
use Rattle.min_cover.specs.inside.Finishing.{number_at}
use Rattle.min_cover.proofs.longest.memory_of_pairs.Given as goal

abbrev pub invariant-loop-pair : goal.invariant-loop-pair
invariant-loop-pair l = record {
  fits : l.memory ≤ 65537;
  all : (p : ℕ) → p < l.pair → p / length l.pairs.graph ≢ p % length l.pairs.graph → number_at l.longest.items p < l.memory;
  some : (l.memory ≡ 0) ⊎ ((p : ℕ) × (p < pair_count l.pairs.graph) × (p / length l.pairs.graph ≢ p % length l.pairs.graph)
      × (number_at l.longest.items p + 1 ≡ l.memory));
}
