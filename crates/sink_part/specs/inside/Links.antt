-- The links between states of positive weight: one where some edge leads from the one to the other.
use Rattle.std.specs.Prelude.{◌≡◌, ◌↔◌, ℕ, ◌<◌, Bool, true, false, List, [], length, slice_index, slice_index_or, Contains}
use Rattle.symbol_base.specs.Ascending.{IsAscending}
use Rattle.label_graphs.specs.Graph.{EdgeData, IsEdgeBefore, HasEdge, IsGraph}
use Rattle.label_graphs.specs.Sink.{IsPositiveEdge}

-- some edge leads from the one to the other, and both are of positive weight
abbrev pub IsLink : List (List EdgeData) → List ℕ → ℕ → ℕ → Type 0
IsLink rows weights from to = (block : ℕ) × IsPositiveEdge rows weights from block to

abbrev pub Marked : List Bool → ℕ → Type 0
Marked marks state = slice_index_or marks state false ≡ true

-- There is a mark for each state, which is true exactly where a link leads to it.
pub record AreMarkedTargets (rows : List (List EdgeData)) (weights : List ℕ) (from : ℕ) (marks : List Bool) : Type 0 where
  pub size : length marks ≡ length rows
  pub each : (to : ℕ) → Marked marks to ↔ IsLink rows weights from to

-- There is a mark for each state, which is true exactly where one of these edges leads to it, and it has a positive weight.
pub record AreMarkedBy (row : List EdgeData) (weights : List ℕ) (count : ℕ) (marks : List Bool) : Type 0 where
  pub size : length marks ≡ count
  pub each : (to : ℕ) → Marked marks to
      ↔ (block : ℕ) × Contains row (record { block = block; to = to }) × (0 < slice_index weights to)

-- the edge of a link
abbrev pub link_to : ℕ → EdgeData
link_to to = record { block = to; to = to }

-- A graph of the same states, with one edge for each link, whose block is the target's number.
pub record AreLinks (rows : List (List EdgeData)) (weights : List ℕ) (links : List (List EdgeData)) : Type 0 where
  pub graph : IsGraph rows
  pub links_graph : IsGraph links
  pub size : length links ≡ length rows
  pub edges : (from block to : ℕ) → HasEdge links from block to ↔ ((block ≡ to) × IsLink rows weights from to)

-- One row of such a graph: its edges stand in order, and each is a link's.
pub record IsLinkRow (rows : List (List EdgeData)) (weights : List ℕ) (from : ℕ) (row : List EdgeData) : Type 0 where
  pub order : IsAscending IsEdgeBefore row
  pub edges : (block to : ℕ) → Contains row (record { block = block; to = to }) ↔ ((block ≡ to) × IsLink rows weights from to)

-- the first rows of such a graph
pub record AreLinkRows (rows : List (List EdgeData)) (weights : List ℕ) (links : List (List EdgeData)) (count : ℕ) : Type 0 where
  pub size : length links ≡ count
  pub each : (from : ℕ) → from < count → IsLinkRow rows weights from (slice_index_or links from [])
