use Rattle.split_spec.proofs.FewRounds.{few_rounds}
use Rattle.split_spec.proofs.chains.rounds_are_few.Goals as goal

pub returns : goal.returns
returns c = few_rounds c.a_round_keeps_weights.ensures c.heaviest_states_are_split.ensures c.graphs_are_no_larger.ensures
