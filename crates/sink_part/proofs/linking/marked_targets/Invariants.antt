use Rattle.std.proofs.Common.{map, take, length}
use Rattle.label_graphs.specs.Views.{edge_data}
use Rattle.sink_part.specs.inside.Links.{AreMarkedBy}
use Rattle.sink_part.proofs.linking.marked_targets.Given as goal

abbrev pub invariant-loop-edge : goal.invariant-loop-edge
invariant-loop-edge l = AreMarkedBy (map (edge_data (λ name. name)) (take l.edge-index l.edge-items)) l.weights (length l.graph) l.marks.items
