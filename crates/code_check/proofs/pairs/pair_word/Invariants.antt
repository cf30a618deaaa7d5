use Rattle.code_check.specs.inside.PairGraph.{IsPaired}
use Rattle.code_check.proofs.pairs.pair_word.Given as goal

abbrev pub invariant-loop-at : goal.invariant-loop-at
invariant-loop-at l = IsPaired l.code l.fn.first l.second l.word l.list l.at l.room.items
