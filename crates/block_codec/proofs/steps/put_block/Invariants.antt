use Rattle.std.proofs.Common.{◌≡◌, ◌+◌, ◌++◌, take}
use Rattle.symbol_base.specs.Block.{symbols_of}
use Rattle.block_codec.specs.inside.Digits.{digits_of}
use Rattle.block_codec.proofs.steps.put_block.Given as goal

-- the digits up to the place stand in the room
abbrev pub invariant-loop-k : goal.invariant-loop-k
invariant-loop-k l = take (l.at + l.k) l.room ≡ take l.at l.fn.room ++ digits_of (take l.k (symbols_of 2 l.q l.block.value))
