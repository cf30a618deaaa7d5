use Rattle.block_codec.proofs.GroupLaws.{HasWords}
use Rattle.block_codec.proofs.answers.several_words.Given as goal

-- the words of the windows so far
abbrev pub invariant-loop-k : goal.invariant-loop-k
invariant-loop-k l = HasWords l.code l.last l.here l.k l.words
