use Rattle.std.proofs.Common.{map, take}
use Rattle.label_graphs.specs.Views.{edge_data}
use Rattle.label_graphs.specs.inside.Found.{AreTaken, targets}
use Rattle.label_graphs.proofs.reached.mark_targets.Given as goal

abbrev pub invariant-loop-edge : goal.invariant-loop-edge
invariant-loop-edge g l =
    let number = g.N.Name.number in
    AreTaken (targets (map (edge_data number) (take l.edge-index l.edges))) l.fn.marks (map number l.fn.found.items) l.marks (map number l.found.items)
