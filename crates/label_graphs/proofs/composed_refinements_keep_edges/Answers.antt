use Rattle.label_graphs.proofs.Composed.{composed_keeps}
use Rattle.label_graphs.proofs.composed_refinements_keep_edges.Goals as goal

pub returns : goal.returns
returns c = composed_keeps
