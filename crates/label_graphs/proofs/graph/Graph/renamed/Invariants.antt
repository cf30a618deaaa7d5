use Rattle.std.proofs.Common.{◌≡◌, take}
use Rattle.label_graphs.specs.Views.{rows_data}
use Rattle.label_graphs.proofs.graph.Graph.renamed.Given as goal

abbrev pub invariant-loop-row : goal.invariant-loop-row
invariant-loop-row g l =
    rows_data (g.M.Name.number) l.rows.items ≡ rows_data (g.N.Name.number) (take l.row-index l.row-items)
