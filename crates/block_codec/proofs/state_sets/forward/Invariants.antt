use Rattle.block_codec.specs.inside.Sets.{IsForward}
use Rattle.block_codec.proofs.state_sets.forward.Given as goal

abbrev pub invariant-loop-state : goal.invariant-loop-state
invariant-loop-state l = IsForward l.code l.from l.block l.state l.set
