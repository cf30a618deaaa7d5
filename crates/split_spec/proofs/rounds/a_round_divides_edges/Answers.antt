use Rattle.split_spec.proofs.RoundEdges.{edges_divided}
use Rattle.split_spec.proofs.rounds.a_round_divides_edges.Goals as goal

pub returns : goal.returns
returns c = edges_divided
