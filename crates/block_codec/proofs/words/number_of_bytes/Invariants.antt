use Rattle.std.proofs.Common.{◌≡◌, take}
use Rattle.symbol_base.specs.Block.{number_of}
use Rattle.block_codec.proofs.words.number_of_bytes.Given as goal

-- the value is that of the bytes so far
abbrev pub invariant-loop-byte : goal.invariant-loop-byte
invariant-loop-byte l = l.value ≡ number_of 256 (take l.byte-index l.bytes)
