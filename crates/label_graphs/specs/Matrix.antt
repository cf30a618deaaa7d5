-- Square tables of numbers, and the numbers of edges between the states of a graph.
use Rattle.std.specs.Prelude.{◌≡◌, ℕ, ◌<◌, ◌^◌, List, [], length, All, slice_index, slice_index_or}
use Rattle.label_graphs.specs.Graph.{EdgeData}
use Rattle.label_graphs.specs.Cover.{CoverData}
use Rattle.label_graphs.specs.Power.{IsPower, edges_between}

-- what every matrix keeps: as many entries in each row as there are rows
pub record IsMatrix (matrix : List (List ℕ)) : Type 0 where
  pub size : length matrix < 2 ^ 32
  pub square : All (λ row. length row ≡ length matrix) matrix

abbrev pub entry_at : List (List ℕ) → ℕ → ℕ → ℕ
entry_at matrix from to = slice_index (slice_index_or matrix from []) to

-- the entries are the numbers of edges between the states of the graph
pub record CountsEdges (rows : List (List EdgeData)) (matrix : List (List ℕ)) : Type 0 where
  pub size : length matrix ≡ length rows
  pub square : All (λ row. length row ≡ length rows) matrix
  pub entries : (from to : ℕ) → from < length rows → to < length rows
      → entry_at matrix from to ≡ edges_between rows from to

-- the entries are the numbers of words of q symbols that lead from state to state of the cover
abbrev pub CountsWords : CoverData → ℕ → List (List ℕ) → Type 0
CountsWords cover q matrix = (rows : List (List EdgeData)) × IsPower cover q rows × CountsEdges rows matrix
