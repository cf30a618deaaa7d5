use Rattle.std.proofs.Common.{◌≡◌, length}
use Rattle.block_codec.specs.inside.Sets.{HasStates}
use Rattle.block_codec.proofs.state_sets.all_states.Given as goal

abbrev pub invariant-loop-state : goal.invariant-loop-state
invariant-loop-state l = record { count : length l.set ≡ 512; set : HasStates l.state l.set }
