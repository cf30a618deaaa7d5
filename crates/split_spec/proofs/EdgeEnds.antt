-- An edge of a graph leads from one of its states to one of its states.
use Rattle.std.proofs.Common.{◌≡◌, ℕ, ◌<◌, List, [], ◌∷◌, length, inl, inr, ap, arith}
use Rattle.std.proofs.lemmas.Bool.{cases_lt}
use Rattle.std.proofs.lemmas.List.{get_or_past}
use Rattle.symbol_base.specs.Walk.{IsWalk}
use Rattle.label_graphs.specs.Graph.{EdgeData, HasEdge, IsGraph}
use Rattle.label_graphs.proofs.Renumbered.{target_of}

-- the edge with the block to the state
abbrev pub edge_to : ℕ → ℕ → EdgeData
edge_to block to = record { block = block; to = to }

-- an edge leaves one of the states, since past the rows there are none
pub source_inside : (rows : List (List EdgeData)) (from block to : ℕ) → HasEdge rows from block to → from < length rows
source_inside rows from block to edge = elim (cases_lt from (length rows)) [
  | inl inside ↦ inside
  | inr past ↦ absurd (let few = edge.1 in omega (arith, few, ap (λ (es : List EdgeData). length es) (get_or_past rows from [] past)))
]

-- and an edge leads to one of them
pub target_inside : (rows : List (List EdgeData)) (from block to : ℕ) → IsGraph rows → HasEdge rows from block to → to < length rows
target_inside rows from block to graph edge = target_of rows from block to graph (source_inside rows from block to edge) edge

-- a walk to a state of the graph starts in one
pub start_inside : (rows : List (List EdgeData)) (blocks : List ℕ) (from to : ℕ) → IsWalk (HasEdge rows) from blocks to → to < length rows
    → from < length rows
start_inside rows [] from to walk inside = let same : from ≡ to = walk in omega (arith, same, inside)
start_inside rows (block ∷ blocks) from to walk inside = source_inside rows from block walk.0 walk.1
