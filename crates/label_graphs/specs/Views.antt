-- What contracts see of a graph's rows: a plain record for each edge, and numbers in place of names.
use Rattle.std.specs.Prelude.{ℕ, List, map}
use Rattle.std.specs.Global.{Vec}
use Rattle.label_graphs.specs.declared.graph.Edge.{Edge}
use Rattle.label_graphs.specs.Graph.{EdgeData}

abbrev pub edge_data : {N : Type 0} → (N → ℕ) → Edge N → EdgeData
edge_data number e = record { block = e.block.value; to = number e.to }

abbrev pub rows_data : {N : Type 0} → (N → ℕ) → List (Vec (Edge N)) → List (List EdgeData)
rows_data number rows = map (λ row. map (edge_data number) row.items) rows

abbrev pub matrix_data : List (Vec ℕ) → List (List ℕ)
matrix_data rows = map (λ row. row.items) rows
