use Rattle.std.proofs.Common.{refl, ◌∙◌, length-set, arith}
use Rattle.block_codec.proofs.SetLaws.{backward_none, backward_more}
use Rattle.block_codec.proofs.state_sets.backward.Goals as goal

pub loop-state-init : goal.loop-state-init
loop-state-init c = record { count = refl; set = backward_none c.args.code.now c.args.into.now c.args.block 512 }

pub loop-state-preserved : goal.loop-state-preserved
loop-state-preserved c =
    let marks = c.loop-state.set in
    let state = c.loop-state.state in
    record {
      count = length-set marks state c.is_some.result ∙ c.loop-state.invariant.count;
      set =
          backward_more c.args.code.now c.args.into.now c.args.block state marks c.word_into.result c.is_some.result (omega (arith, c.loop-state.invariant.count)) c.word_into.ensures c.is_some.ensures
          c.loop-state.invariant.set;
    }
