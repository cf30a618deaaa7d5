use Rattle.std.proofs.Common.{◌≡◌, ◌*◌}
use Rattle.block_codec.specs.inside.Digits.{PutsDigits}
use Rattle.block_codec.proofs.ItemLaws.{words_to}
use Rattle.block_codec.proofs.steps.put_file.Given as goal

-- the file's words up to the place are put
abbrev pub invariant-loop-j : goal.invariant-loop-j
invariant-loop-j l = record {
  puts : PutsDigits l.code l.fn.state (words_to l.code.p l.file l.j) 0 l.fn.room l.room l.state;
  at : l.at ≡ l.code.q * l.j;
}
