use Rattle.std.proofs.Common.{◌≡◌, map, take}
use Rattle.label_graphs.specs.Views.{edge_data}
use Rattle.label_graphs.specs.inside.Numbers.{is_marked, renumbered}
use Rattle.label_graphs.proofs.kept.kept_edges.Given as goal

abbrev pub invariant-loop-edge : goal.invariant-loop-edge
invariant-loop-edge g l =
    map (edge_data (g.N.Name.number)) l.kept.items
    ≡ renumbered (is_marked l.marks) (map (edge_data (g.N.Name.number)) (take l.edge-index l.edges))
