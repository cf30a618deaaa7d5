use Rattle.split_spec.proofs.SumsCounted.{graphs_are_no_larger}
use Rattle.split_spec.proofs.rounds.graphs_are_no_larger.Goals as goal

pub returns : goal.returns
returns c = graphs_are_no_larger
