use Rattle.std.proofs.Common.{◌≤◌, length, drop}
use Rattle.block_codec.specs.inside.Sets.{AreReadable}
use Rattle.block_codec.proofs.state_sets.readable.Given as goal

abbrev pub invariant-loop-at : goal.invariant-loop-at
invariant-loop-at l = record { within : l.at ≤ length l.blocks; set : AreReadable l.code (drop l.at l.blocks) l.set }

abbrev pub decreases-loop-at : goal.decreases-loop-at
decreases-loop-at l = l.at
