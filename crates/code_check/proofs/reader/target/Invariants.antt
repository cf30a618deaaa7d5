use Rattle.std.proofs.Common.{◌≡◌, drop, map}
use Rattle.label_graphs.specs.Views.{edge_data}
use Rattle.code_check.specs.inside.CoverMoves.{target_of}
use Rattle.code_check.proofs.reader.target.Given as goal

abbrev pub invariant-loop-edge : goal.invariant-loop-edge
invariant-loop-edge l =
    target_of (map (edge_data (λ name. name)) (drop l.edge-index l.edges)) l.symbol l.none
    ≡ target_of (map (edge_data (λ name. name)) l.edges) l.symbol l.none
