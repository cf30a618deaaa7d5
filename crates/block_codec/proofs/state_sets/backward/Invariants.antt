use Rattle.std.proofs.Common.{◌≡◌, length}
use Rattle.block_codec.specs.inside.Sets.{IsBackward}
use Rattle.block_codec.proofs.state_sets.backward.Given as goal

abbrev pub invariant-loop-state : goal.invariant-loop-state
invariant-loop-state l = record { count : length l.set ≡ 512; set : IsBackward l.code l.into l.block l.state l.set }
