use Rattle.std.proofs.Common.{◌*◌, ◌<◌, ◌^◌, take}
use Rattle.code_spec.specs.Code.{IsState}
use Rattle.code_spec.specs.Walks.{IsWalkOf}
use Rattle.block_codec.specs.inside.Answers.{blocks_in, words_in}
use Rattle.block_codec.proofs.answers.written.Given as goal

-- the first words are walked through, and the number is that of the blocks so far
abbrev pub invariant-loop-i : goal.invariant-loop-i
invariant-loop-i l = record {
  inside : IsState l.code l.at;
  below : l.place < 2 ^ (l.code.q * l.i);
  walk : IsWalkOf l.code l.fn.state (take l.i (words_in l.code l.number)) (blocks_in l.code.q l.i l.place) l.at;
}
