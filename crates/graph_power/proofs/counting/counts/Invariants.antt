use Rattle.label_graphs.specs.Views.{matrix_data}
use Rattle.graph_power.specs.inside.Words.{AreCounts}
use Rattle.graph_power.proofs.counting.counts.Given as goal

abbrev pub invariant-loop-symbol : goal.invariant-loop-symbol
invariant-loop-symbol l = AreCounts l.cover.graph l._symbol (matrix_data l.rows.items)
