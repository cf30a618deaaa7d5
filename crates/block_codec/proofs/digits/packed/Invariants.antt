use Rattle.std.proofs.Common.{◌*◌, take}
use Rattle.block_codec.specs.inside.Packing.{IsPacked}
use Rattle.block_codec.proofs.digits.packed.Given as goal

-- the digits so far are packed
abbrev pub invariant-loop-i : goal.invariant-loop-i
invariant-loop-i l = IsPacked (8 * l.i) (take (8 * l.i) l.digits) l.value
