use Rattle.std.proofs.Common.{◌≡◌, ℕ, ◌<◌, length, get_or, []}
use Rattle.std.specs.Prelude.{All}
use Rattle.label_graphs.specs.Matrix.{entry_at}
use Rattle.label_graphs.specs.Views.{matrix_data}
use Rattle.graph_power.specs.inside.Words.{target_total}
use Rattle.graph_power.proofs.counting.of_one_symbol_more.Given as goal

abbrev pub invariant-loop-state : goal.invariant-loop-state
invariant-loop-state l = record {
  size : length (matrix_data l.more.items) ≡ l.state;
  square : All (λ row. length row ≡ length l.cover.graph) (matrix_data l.more.items);
  each : (from to : ℕ) → from < l.state → to < length l.cover.graph
      → entry_at (matrix_data l.more.items) from to ≡ target_total (λ s. entry_at (matrix_data l.counts) s to) (get_or l.cover.graph from []);
}
