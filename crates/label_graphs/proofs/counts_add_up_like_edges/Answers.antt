use Rattle.label_graphs.proofs.Sums.{counts_add_up}
use Rattle.label_graphs.proofs.counts_add_up_like_edges.Goals as goal

pub returns : goal.returns
returns c = counts_add_up
