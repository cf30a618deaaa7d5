use Rattle.split_spec.proofs.ChainKeeps.{look_ahead}
use Rattle.split_spec.proofs.windows.rounds_look_ahead.Goals as goal

pub returns : goal.returns
returns c = look_ahead c.a_round_keeps_weights.ensures c.a_round_divides_edges.ensures
