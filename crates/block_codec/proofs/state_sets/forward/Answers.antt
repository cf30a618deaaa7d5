use Rattle.block_codec.proofs.SetLaws.{forward_none}
use Rattle.block_codec.proofs.state_sets.forward.Goals as goal

pub loop-state-init : goal.loop-state-init
loop-state-init c = forward_none c.args.code.now c.args.from.now c.args.block 512
