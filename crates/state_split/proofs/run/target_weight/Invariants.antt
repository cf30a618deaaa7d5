use Rattle.std.proofs.Common.{◌≡◌, ◌*◌, ◌≤◌, take}
use Rattle.split_spec.specs.Run.{weight_of}
use Rattle.state_split.specs.Views.{edges_data}
use Rattle.state_split.proofs.run.target_weight.Given as goal

abbrev pub invariant-loop-edge : goal.invariant-loop-edge
invariant-loop-edge l =
    (l.total ≡ weight_of l.weights (edges_data (take l.edge-index l.edges))) × (l.total ≤ 512 * l.edge-index)
