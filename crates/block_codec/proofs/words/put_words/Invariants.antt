use Rattle.std.proofs.Common.{◌*◌, take}
use Rattle.code_spec.specs.PlainText.{file_words}
use Rattle.block_codec.specs.inside.Digits.{PutsDigits}
use Rattle.block_codec.proofs.words.put_words.Given as goal

-- the words of the groups so far are put
abbrev pub invariant-loop-group : goal.invariant-loop-group
invariant-loop-group l = PutsDigits l.code l.fn.state (file_words l.code.p (take (l.code.p * l.group) l.bytes)) 0 l.fn.room l.room l.state
