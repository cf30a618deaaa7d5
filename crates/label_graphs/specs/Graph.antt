-- Graphs with a block on each edge, given by the edges that leave each state.
use Rattle.std.specs.Prelude.{◌≡◌, ℕ, ◌<◌, ◌^◌, ◌⊎◌, List, [], length, All, Contains, slice_index_or}
use Rattle.symbol_base.specs.Ascending.{IsAscending}

pub record EdgeData : Type 0 where
  pub block : ℕ
  pub to : ℕ

-- by block, then by target
abbrev pub IsEdgeBefore : EdgeData → EdgeData → Type 0
IsEdgeBefore e f = (e.block < f.block) ⊎ ((e.block ≡ f.block) × (e.to < f.to))

-- an edge with the block leads from the one state to the other
abbrev pub HasEdge : List (List EdgeData) → ℕ → ℕ → ℕ → Type 0
HasEdge rows from block to = Contains (slice_index_or rows from []) (record { block = block; to = to })

-- what the rows of every graph keep
pub record IsGraph (rows : List (List EdgeData)) : Type 0 where
  pub count : length rows < 2 ^ 32
  -- a state's edges stand in order, and none comes twice
  pub order : All (IsAscending IsEdgeBefore) rows
  -- each edge leads to a state of the graph
  pub targets : All (All (λ e. e.to < length rows)) rows
