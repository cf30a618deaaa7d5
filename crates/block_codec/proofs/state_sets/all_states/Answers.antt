use Rattle.std.proofs.Common.{refl, true, ◌∙◌, length-set, arith}
use Rattle.block_codec.proofs.SetLaws.{states_none, states_more}
use Rattle.block_codec.proofs.state_sets.all_states.Goals as goal

pub loop-state-init : goal.loop-state-init
loop-state-init c = record { count = refl; set = states_none 512 }

pub loop-state-preserved : goal.loop-state-preserved
loop-state-preserved c =
    let marks = c.loop-state.set in
    record {
      count = length-set marks c.loop-state.state true ∙ c.loop-state.invariant.count;
      set = states_more c.loop-state.state marks (omega (arith, c.loop-state.invariant.count)) c.loop-state.invariant.set;
    }
