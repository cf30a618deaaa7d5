-- A round of splitting: each state whose run weighs less than itself is divided into two parts.
use Rattle.std.specs.Prelude.{◌≡◌, ◌≢◌, ◌↔◌, ℕ, ◌+◌, ◌<◌, List, [], ◌++◌, length, map, Some, slice_get, slice_index, slice_index_or, All, Contains}
use Rattle.std.specs.List.{range_with_len}
use Rattle.symbol_base.specs.Ascending.{IsAscending}
use Rattle.label_graphs.specs.Graph.{EdgeData, HasEdge, IsGraph}
use Rattle.split_spec.specs.Weighted.{WeightedData}
use Rattle.split_spec.specs.Run.{IsRun}

-- a state that is split, its run, and what the part that takes the run weighs
pub record SplitData : Type 0 where
  pub state : ℕ
  pub run : List EdgeData
  pub y : ℕ

-- the state has such a run, which weighs less than the state
pub record IsSplit (n : ℕ) (g : WeightedData) (split : SplitData) : Type 0 where
  pub inside : split.state < length g.rows
  pub run : IsRun n g.weights (slice_index_or g.rows split.state []) split.run split.y
  pub lighter : split.y < slice_index g.weights split.state

-- none of the splits is the state's
abbrev pub IsWhole : List SplitData → ℕ → Type 0
IsWhole splits state = All (λ split. split.state ≢ state) splits

-- The edge, which leads to a state of the graph, leaves this part of its source: that of a state which isn't split;
-- the part of a split state that takes the run, and keeps the state's number; or the one that takes the rest, whose
-- number is the next free one.
pub data Leaves (rows : List (List EdgeData)) (splits : List SplitData) (part : ℕ) (e : EdgeData) : Type 0 where
  whole : part < length rows → IsWhole splits part → Contains (slice_index_or rows part []) e → Leaves rows splits part e
  in_run : (split : SplitData) → Contains splits split → split.state ≡ part → Contains split.run e → Leaves rows splits part e
  in_rest : (place : ℕ) (split : SplitData) → slice_get splits place ≡ Some split → part ≡ length rows + place
      → Contains (slice_index_or rows split.state []) e → (Contains split.run e → ⊥) → Leaves rows splits part e

-- A round makes the second graph of the first, and gives each of its states a parent in the first.
pub record IsRound (n : ℕ) (g : WeightedData) (splits : List SplitData) (h : WeightedData) (parents : List ℕ) : Type 0 where
  -- the splits are those of all states that have one, in ascending order
  pub order : IsAscending (λ a b. a.state < b.state) splits
  pub exact : (split : SplitData) → Contains splits split ↔ IsSplit n g split
  -- the new parts stand behind the states
  pub parents_are : parents ≡ range_with_len 0 (length g.rows) ++ map (λ split. split.state) splits
  pub graph : IsGraph h.rows
  pub rows_size : length h.rows ≡ length parents
  pub weights_size : length h.weights ≡ length parents
  -- the run takes its weight of a split state, and the rest what is left
  pub whole : (state : ℕ) → state < length g.rows → IsWhole splits state
      → slice_index h.weights state ≡ slice_index g.weights state
  pub run : (split : SplitData) → Contains splits split → slice_index h.weights split.state ≡ split.y
  pub rest : (place : ℕ) (split : SplitData) → slice_get splits place ≡ Some split
      → slice_index h.weights (length g.rows + place) + split.y ≡ slice_index g.weights split.state
  -- an edge that leaves a part leads from there to each part of its target
  pub edges : (from block to : ℕ) → HasEdge h.rows from block to
      ↔ (to < length parents) × Leaves g.rows splits from (record { block = block; to = slice_index parents to })
