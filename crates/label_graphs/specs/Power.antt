-- The power of a graph: a walk of q symbols as one edge, with the word of the walk as its block.
use Rattle.std.specs.Prelude.{◌≡◌, ◌↔◌, ℕ, List, [], length, map, filter, nat_eq, slice_index_or}
use Rattle.std.specs.List.{sum}
use Rattle.symbol_base.specs.Block.{number_of}
use Rattle.symbol_base.specs.Walk.{IsWalk}
use Rattle.label_graphs.specs.Graph.{EdgeData, HasEdge, IsGraph}
use Rattle.label_graphs.specs.Cover.{CoverData}

-- the block is the number of a word of q symbols that labels a walk from the one state to the other
abbrev pub IsPowerEdge : CoverData → ℕ → ℕ → ℕ → ℕ → Type 0
IsPowerEdge cover q from block to =
    (word : List ℕ) × IsWalk (HasEdge cover.graph) from word to
    × (length word ≡ q) × (number_of cover.alphabet word ≡ block)

-- The rows are the q-th power of the cover: they have its states, and a walk of q symbols of it is an edge.
pub record IsPower (cover : CoverData) (q : ℕ) (rows : List (List EdgeData)) : Type 0 where
  pub graph : IsGraph rows
  pub states : length rows ≡ length cover.graph
  pub edges : (from block to : ℕ) → HasEdge rows from block to ↔ IsPowerEdge cover q from block to

-- how many edges a graph has
abbrev pub edge_count : List (List EdgeData) → ℕ
edge_count rows = sum (map (λ row. length row) rows)

-- how many edges lead from the one state to the other
abbrev pub edges_between : List (List EdgeData) → ℕ → ℕ → ℕ
edges_between rows from to = length (filter (λ e. nat_eq e.to to) (slice_index_or rows from []))

-- the power of the cover has so many edges
abbrev pub HasPowerEdges : CoverData → ℕ → ℕ → Type 0
HasPowerEdges cover q count = (rows : List (List EdgeData)) × IsPower cover q rows × (edge_count rows ≡ count)
