-- The parts of states that are split: their numbers, their edges and their weights.
use Rattle.std.specs.Prelude.{◌≡◌, ◌↔◌, ℕ, ◌+◌, ◌<◌, List, ◌++◌, length, map, Option, Some, None, IfSome, IfNone, slice_get, slice_index, slice_index_or, All, Contains}
use Rattle.std.specs.List.{range_with_len}
use Rattle.symbol_base.specs.Ascending.{IsAscending}
use Rattle.label_graphs.specs.Graph.{EdgeData, IsEdgeBefore}
use Rattle.split_spec.specs.Round.{SplitData, IsWhole}
use Rattle.state_split.specs.declared.parts.Part.{Part}
use Rattle.state_split.specs.declared.parts.Part.TheVariants.{First, Second}

-- of so many states, this one's second part has this number
pub record IsSecondPart (states : ℕ) (splits : List SplitData) (state part : ℕ) : Type 0 where
  pub place : ℕ
  pub split : SplitData
  pub there : slice_get splits place ≡ Some split
  pub of : split.state ≡ state
  pub number : part ≡ states + place

-- for each state the number of its second part, or none where it isn't split
pub record AreSecondParts (splits : List SplitData) (parts : List (Option ℕ)) : Type 0 where
  pub split : (state : ℕ) → state < length parts → IfSome (slice_index_or parts state None) (IsSecondPart (length parts) splits state)
  pub whole : (state : ℕ) → state < length parts → IfNone (slice_index_or parts state None) (IsWhole splits state)

-- the splits are of states below this number, in ascending order
pub record AreSplitsOf (states : ℕ) (splits : List SplitData) : Type 0 where
  pub order : IsAscending (λ a b. a.state < b.state) splits
  pub inside : All (λ split. split.state < states) splits

-- the parent of each part
abbrev pub part_parents : ℕ → List SplitData → List ℕ
part_parents states splits = range_with_len 0 states ++ map (λ split. split.state) splits

-- the weights of the parts of states with these weights
pub record ArePartWeights (x : List ℕ) (splits : List SplitData) (weights : List ℕ) : Type 0 where
  pub size : length weights ≡ length x + length splits
  pub whole : (state : ℕ) → state < length x → IsWhole splits state → slice_index weights state ≡ slice_index x state
  pub run : (split : SplitData) → Contains splits split → slice_index weights split.state ≡ split.y
  pub rest : (place : ℕ) (split : SplitData) → slice_get splits place ≡ Some split
      → slice_index weights (length x + place) + split.y ≡ slice_index x split.state

-- the first part takes the edges of the run, and the second one the others
abbrev pub IsTakenBy : Part → List EdgeData → EdgeData → Type 0
IsTakenBy First run e = Contains run e
IsTakenBy Second run e = Contains run e → ⊥

-- some edges of a row, in the row's order
pub record ArePicked (row : List EdgeData) (IsPicked : EdgeData → Type 0) (edges : List EdgeData) : Type 0 where
  pub order : IsAscending IsEdgeBefore edges
  pub exact : (e : EdgeData) → Contains edges e ↔ (Contains row e × IsPicked e)
