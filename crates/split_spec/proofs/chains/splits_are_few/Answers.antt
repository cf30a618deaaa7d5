use Rattle.split_spec.proofs.FewRounds.{few_splits}
use Rattle.split_spec.proofs.chains.splits_are_few.Goals as goal

pub returns : goal.returns
returns c = few_splits c.a_round_keeps_weights.ensures c.graphs_are_no_larger.ensures
