use Rattle.std.proofs.Common.{suc, ◌≡◌, ◌+◌, ◌∙◌, ap, take, arith}
use Rattle.std.proofs.Math.Seq.{take-suc}
use Rattle.block_codec.proofs.SetLaws.{reached_all, reached_next}
use Rattle.block_codec.proofs.state_sets.reached.Goals as goal

pub loop-block-init : goal.loop-block-init
loop-block-init c = reached_all c.args.code.now c.all_states-set.result c.all_states-set.ensures.states

pub loop-block-preserved : goal.loop-block-preserved
loop-block-preserved c =
    let blocks = c.args.blocks.now in
    let at = c.loop-block.block-index in
    let next : at + 1 ≡ suc at = omega arith in
    reached_next c.args.code.now (take at blocks) (take (at + 1) blocks) _ c.loop-block.set c.forward-next.result c.all_states-set.ensures.table
    (ap (λ n. take n blocks) next ∙ take-suc blocks at _ c.loop-block-test.true) c.loop-block.invariant c.forward-next.ensures
