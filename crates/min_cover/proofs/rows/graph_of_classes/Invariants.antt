use Rattle.std.proofs.Common.{take}
use Rattle.std.specs.Prelude.{slice_index}
use Rattle.label_graphs.specs.Views.{rows_data}
use Rattle.min_cover.specs.inside.Classes.{rows_of}
use Rattle.min_cover.specs.inside.Rows.{AreRows}
use Rattle.min_cover.proofs.rows.graph_of_classes.Given as goal

abbrev pub invariant-loop-first : goal.invariant-loop-first
invariant-loop-first l =
    AreRows (slice_index l.classes.of.items) (rows_of l.rows) (take l.first-index l.classes.firsts.items) (rows_data (λ name. name) l.graph.items)
