use Rattle.std.proofs.Common.{ℕ}
use Rattle.block_codec.specs.inside.Between.{IsWordBetween}
use Rattle.block_codec.proofs.window.word_between.Given as goal

abbrev pub invariant-loop-state : goal.invariant-loop-state
invariant-loop-state l = (word : ℕ) → IsWordBetween l.code l.front l.block l.back l.state word → ⊥
