use Rattle.split_spec.proofs.OneChain.{one_chain}
use Rattle.split_spec.proofs.chains.a_graph_has_one_chain.Goals as goal

pub returns : goal.returns
returns c = one_chain c.one_round_follows.ensures
