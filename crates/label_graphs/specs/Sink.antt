-- Sinks of a graph with weights: closed sets of states, each of which leads to each other.
use Rattle.std.specs.Prelude.{◌≡◌, ◌↔◌, ◌⊎◌, ℕ, ◌<◌, ◌≤◌, List, length, map, slice_index, All, Contains}
use Rattle.std.specs.List.{sum, range_with_len}
use Rattle.symbol_base.specs.Ascending.{IsAscending}
use Rattle.symbol_base.specs.Walk.{IsWalk}
use Rattle.label_graphs.specs.Graph.{EdgeData, HasEdge}
use Rattle.label_graphs.specs.Vector.{target_sum}

-- an edge between two states of positive weight
abbrev pub IsPositiveEdge : List (List EdgeData) → List ℕ → ℕ → ℕ → ℕ → Type 0
IsPositiveEdge rows weights from block to =
    HasEdge rows from block to × (0 < slice_index weights from) × (0 < slice_index weights to)

-- a walk through states of positive weight, of any length, leads from the one state to the other
abbrev pub IsLedTo : List (List EdgeData) → List ℕ → ℕ → ℕ → Type 0
IsLedTo rows weights from to = (blocks : List ℕ) × IsWalk (IsPositiveEdge rows weights) from blocks to

-- Some states of positive weight, listed in ascending order, that no edge to a state of positive weight
-- leaves, and each of which leads to each.
pub record IsSink (rows : List (List EdgeData)) (weights states : List ℕ) : Type 0 where
  pub some : 0 < length states
  pub order : IsAscending (λ s t. s < t) states
  pub positive : All (λ state. (state < length rows) × (0 < slice_index weights state)) states
  pub closed : (from block to : ℕ) → Contains states from → IsPositiveEdge rows weights from block to
      → Contains states to
  pub joined : (from to : ℕ) → Contains states from → Contains states to → IsLedTo rows weights from to

-- the weights of the states, added up
abbrev pub total_weight : List ℕ → List ℕ → ℕ
total_weight weights states = sum (map (λ state. slice_index weights state) states)

-- the first weighs less than the second, or as much and has the lesser least state
abbrev pub ComesFirst : List ℕ → List ℕ → List ℕ → Type 0
ComesFirst weights first second =
    (total_weight weights first < total_weight weights second)
    ⊎ ((total_weight weights first ≡ total_weight weights second)
    × (slice_index first 0 ≤ slice_index second 0))

-- of all sinks the one of the least total weight, and of those the one of the least state
pub record IsLeastSink (rows : List (List EdgeData)) (weights states : List ℕ) : Type 0 where
  pub sink : IsSink rows weights states
  pub least : (others : List ℕ) → IsSink rows weights others → ComesFirst weights states others

-- the edges are those among the states, which are numbered in the order of the list
abbrev pub AreEdgesAmong : List (List EdgeData) → List ℕ → List (List EdgeData) → Type 0
AreEdgesAmong rows states part = (from block to : ℕ) → from < length states → to < length states
    → HasEdge part from block to ↔ HasEdge rows (slice_index states from) block (slice_index states to)

-- the weights of the targets of all edges, added up
abbrev pub spread : List (List EdgeData) → List ℕ → ℕ
spread rows weights = sum (map (λ state. target_sum rows weights state) (range_with_len 0 (length rows)))
