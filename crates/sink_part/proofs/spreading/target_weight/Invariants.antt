use Rattle.std.proofs.Common.{◌≡◌, ◌*◌, ◌^◌, ◌≤◌, map, take, get_or}
use Rattle.std.specs.List.{sum}
use Rattle.label_graphs.specs.Views.{edge_data}
use Rattle.sink_part.proofs.spreading.target_weight.Given as goal

abbrev pub invariant-loop-edge : goal.invariant-loop-edge
invariant-loop-edge l = record {
  is : l.total ≡ sum (map (λ e. get_or l.weights e.to 0) (map (edge_data (λ name. name)) (take l.edge-index l.edges)));
  small : l.total ≤ 2 ^ 32 * l.edge-index;
}
