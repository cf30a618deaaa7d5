use Rattle.std.proofs.Common.{◌≡◌, ℕ, ◌<◌, length}
use Rattle.std.specs.Prelude.{All}
use Rattle.label_graphs.specs.Matrix.{entry_at}
use Rattle.label_graphs.specs.Views.{matrix_data}
use Rattle.graph_power.specs.inside.Words.{words_to}
use Rattle.graph_power.proofs.counting.of_no_symbol.Given as goal

abbrev pub invariant-loop-state : goal.invariant-loop-state
invariant-loop-state l = record {
  size : length (matrix_data l.rows.items) ≡ l.state;
  square : All (λ row. length row ≡ length l.cover.graph) (matrix_data l.rows.items);
  each : (from to : ℕ) → from < l.state → to < length l.cover.graph
      → entry_at (matrix_data l.rows.items) from to ≡ words_to l.cover.graph 0 to from;
}
