use Rattle.std.proofs.Common.{ℕ, ◌<◌}
use Rattle.block_codec.specs.inside.Sets.{IsWordInto}
use Rattle.block_codec.proofs.state_sets.word_into.Given as goal

abbrev pub invariant-loop-word : goal.invariant-loop-word
invariant-loop-word l = (word : ℕ) → word < l.word → IsWordInto l.code l.state l.block l.into word → ⊥
