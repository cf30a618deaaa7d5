-- The rows of the graph of the classes.
use Rattle.std.specs.Prelude.{◌≡◌, ◌↔◌, ℕ, ◌<◌, ◌≤◌, List, [], length, slice_index, slice_index_or, Option, Some, None, All, Contains}
use Rattle.std.specs.Option.{option_map}
use Rattle.symbol_base.specs.Ascending.{IsAscending}
use Rattle.constraint_spec.specs.Constraint.{ConstraintData, IsWordOf}
use Rattle.label_graphs.specs.Graph.{EdgeData, IsEdgeBefore, IsGraph}
use Rattle.label_graphs.specs.Cover.{IsCoverOf, KeepsSymbols}
use Rattle.min_cover.specs.StateCounts.{HaveRawStates}

-- The edges lead, with each symbol for which the row has a state, to that state's class.
pub record AreEdges (class : ℕ → ℕ) (row : List (Option ℕ)) (edges : List EdgeData) : Type 0 where
  pub leads : (symbol to : ℕ) → Contains edges (record { block = symbol; to = to }) ↔ (option_map class (slice_index_or row symbol None) ≡ Some to)
  pub order : IsAscending IsEdgeBefore edges
  pub symbols : All (λ e. e.block < length row) edges

-- The graph has a row of edges for each class, those of its first member.
pub record AreRows (class : ℕ → ℕ) (rows : List (List (Option ℕ))) (firsts : List ℕ) (graph : List (List EdgeData)) : Type 0 where
  pub size : length graph ≡ length firsts
  pub edges : (i : ℕ) → i < length firsts
      → AreEdges class (slice_index_or rows (slice_index firsts i) []) (slice_index_or graph i [])

-- The rows are those of the cover, whose states may be too many for a cover as a value.
pub record AreRowsOfCover (c : ConstraintData) (rows : List (List EdgeData)) : Type 0 where
  pub cover : IsCoverOf (IsWordOf c) rows
  pub graph : IsGraph rows
  pub symbols : length rows ≤ 256 → KeepsSymbols (record { graph = rows; alphabet = c.alphabet })
  -- no more raw states exist than were searched
  pub few : HaveRawStates c 4097 → ⊥
