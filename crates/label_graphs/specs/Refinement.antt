-- Refinements: for each state of a finer graph the state of a coarser one that it is a part of, its parent.
use Rattle.std.specs.Prelude.{◌≡◌, ℕ, ◌<◌, List, length, map, slice_index}
use Rattle.label_graphs.specs.Graph.{EdgeData, HasEdge}

-- by the parents each edge of the finer graph is an edge of the coarser one with the same block
abbrev pub KeepsEdges : List (List EdgeData) → List (List EdgeData) → List ℕ → Type 0
KeepsEdges fine coarse parents = (from block to : ℕ) → HasEdge fine from block to
    → HasEdge coarse (slice_index parents from) block (slice_index parents to)

-- The parts of a state that the edge leaves: there is exactly one of them, and from there the edge leads to each
-- part of its target.
pub record LeavesOnePart (fine : List (List EdgeData)) (parents : List ℕ) (from block to : ℕ) : Type 0 where
  pub part : ℕ
  pub inside : part < length parents
  pub parent : slice_index parents part ≡ from
  pub all : (target : ℕ) → target < length parents → slice_index parents target ≡ to → HasEdge fine part block target
  pub only : (other target : ℕ) → slice_index parents other ≡ from → slice_index parents target ≡ to
      → HasEdge fine other block target → other ≡ part

-- each edge of the coarser graph leaves exactly one part of its source, and leads to each part of its target
abbrev pub DividesEdges : List (List EdgeData) → List (List EdgeData) → List ℕ → Type 0
DividesEdges fine coarse parents = (from block to : ℕ) → HasEdge coarse from block to → LeavesOnePart fine parents from block to

-- the parents of the parents, where a graph is refined twice
abbrev pub parents_of : List ℕ → List ℕ → List ℕ
parents_of coarse fine = map (λ state. slice_index coarse state) fine
