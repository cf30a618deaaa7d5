use Rattle.std.proofs.Common.{◌≡◌, ◌≤◌, ◌*◌, ◌^◌, get_or, map, take}
use Rattle.label_graphs.specs.Views.{edge_data}
use Rattle.graph_power.specs.inside.Words.{target_total}
use Rattle.graph_power.proofs.listing.sum_at_targets.Given as goal

abbrev pub invariant-loop-edge : goal.invariant-loop-edge
invariant-loop-edge l = record {
  is : l.sum ≡ target_total (λ to. get_or l.counts to 0) (map (edge_data (λ name. name)) (take l.edge-index l.edges));
  small : l.sum ≤ l.edge-index * 2 ^ 38;
}
