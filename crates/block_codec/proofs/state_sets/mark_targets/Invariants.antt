use Rattle.block_codec.specs.inside.Sets.{HasTargets}
use Rattle.block_codec.proofs.state_sets.mark_targets.Given as goal

abbrev pub invariant-loop-word : goal.invariant-loop-word
invariant-loop-word l = HasTargets l.code l.state l.block l.word l.fn.set l.set
