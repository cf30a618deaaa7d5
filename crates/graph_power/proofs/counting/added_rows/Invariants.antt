use Rattle.std.proofs.Common.{◌≡◌, ℕ, ◌*◌, ◌<◌, ◌≤◌, ◌^◌, length, get_or, map, take}
use Rattle.label_graphs.specs.Matrix.{entry_at}
use Rattle.label_graphs.specs.Views.{edge_data, matrix_data}
use Rattle.graph_power.specs.inside.Words.{target_total}
use Rattle.graph_power.proofs.counting.added_rows.Given as goal

abbrev pub invariant-loop-edge : goal.invariant-loop-edge
invariant-loop-edge l = record {
  size : length l.sums.items ≡ length (matrix_data l.counts);
  each : (to : ℕ) → to < length (matrix_data l.counts)
      → get_or l.sums.items to 0 ≡ target_total (λ from. entry_at (matrix_data l.counts) from to) (map (edge_data (λ name. name)) (take l.edge-index l.edges));
  small : (to : ℕ) → to < length (matrix_data l.counts) → get_or l.sums.items to 0 ≤ l.edge-index * 2 ^ 38;
}
