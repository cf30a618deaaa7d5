use Rattle.label_graphs.proofs.OneSink.{one_least_sink}
use Rattle.label_graphs.proofs.a_graph_has_one_least_sink.Goals as goal

pub returns : goal.returns
returns c = one_least_sink
