-- Which states walks from a state end in.
use Rattle.std.specs.Prelude.{◌≡◌, ◌↔◌, ℕ, ◌<◌, Bool, true, false, List, length, slice_index_or}
use Rattle.symbol_base.specs.Walk.{IsWalk}
use Rattle.label_graphs.specs.Graph.{EdgeData, HasEdge}

-- some walk, of any length, leads from the one state to the other
abbrev pub IsReached : List (List EdgeData) → ℕ → ℕ → Type 0
IsReached rows from to = (blocks : List ℕ) × IsWalk (HasEdge rows) from blocks to

-- There is a mark for each state, which is true exactly where a walk from this state ends in it.
pub record MarkReached (rows : List (List EdgeData)) (from : ℕ) (marks : List Bool) : Type 0 where
  pub size : length marks ≡ length rows
  pub reached : (to : ℕ) → to < length rows → (slice_index_or marks to false ≡ true) ↔ IsReached rows from to
