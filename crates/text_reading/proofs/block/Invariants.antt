use Rattle.text_reading.proofs.Blocks.{HasRead}
use Rattle.text_reading.proofs.block.Given as goal

-- the digits so far are digits of symbols, and the value is that of their word
abbrev pub invariant-loop-byte : goal.invariant-loop-byte
invariant-loop-byte l = HasRead l.alphabet l.word l.byte-index l.value
