use Rattle.std.proofs.Common.{map, take}
use Rattle.std.specs.Prelude.{slice_index}
use Rattle.label_graphs.specs.Views.{edge_data}
use Rattle.min_cover.specs.inside.Rows.{AreEdges}
use Rattle.min_cover.proofs.rows.edges_of_row.Given as goal

abbrev pub invariant-loop-symbol : goal.invariant-loop-symbol
invariant-loop-symbol l = AreEdges (slice_index l.classes) (take l.symbol l.row) (map (edge_data (λ name. name)) l.edges.items)
