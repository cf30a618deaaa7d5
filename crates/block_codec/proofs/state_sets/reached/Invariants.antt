use Rattle.std.proofs.Common.{take}
use Rattle.block_codec.specs.inside.Sets.{AreReached}
use Rattle.block_codec.proofs.state_sets.reached.Given as goal

abbrev pub invariant-loop-block : goal.invariant-loop-block
invariant-loop-block l = AreReached l.code (take l.block-index l.blocks) l.set
