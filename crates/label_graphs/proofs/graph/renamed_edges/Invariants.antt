use Rattle.std.proofs.Common.{◌≡◌, map, take}
use Rattle.label_graphs.specs.Views.{edge_data}
use Rattle.label_graphs.proofs.graph.renamed_edges.Given as goal

abbrev pub invariant-loop-edge : goal.invariant-loop-edge
invariant-loop-edge g l =
    map (edge_data (g.M.Name.number)) l.renamed.items ≡ map (edge_data (g.N.Name.number)) (take l.edge-index l.edges)
