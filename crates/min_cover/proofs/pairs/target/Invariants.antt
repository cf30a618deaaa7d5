use Rattle.std.proofs.Common.{◌≡◌, map, drop}
use Rattle.label_graphs.specs.Views.{edge_data}
use Rattle.min_cover.specs.inside.Pairs.{target_of}
use Rattle.min_cover.proofs.pairs.target.Given as goal

abbrev pub invariant-loop-edge : goal.invariant-loop-edge
invariant-loop-edge l =
    target_of (map (edge_data (λ name. name)) l.edges) l.symbol ≡ target_of (map (edge_data (λ name. name)) (drop l.edge-index l.edges)) l.symbol
