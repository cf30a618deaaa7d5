use Rattle.split_spec.proofs.ChainKeeps.{keep_weights}
use Rattle.split_spec.proofs.chains.rounds_keep_weights.Goals as goal

pub returns : goal.returns
returns c = keep_weights c.a_round_keeps_weights.ensures c.a_round_divides_edges.ensures c.composed_refinements_keep_edges.ensures
