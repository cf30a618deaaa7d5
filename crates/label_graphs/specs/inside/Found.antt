-- What a search from a state has found.
use Rattle.std.specs.Prelude.{◌≡◌, ◌⊎◌, ℕ, ◌<◌, Bool, true, false, List, [], ◌∷◌, ◌++◌, length, slice_index, slice_index_or, map, count_by, set}
use Rattle.label_graphs.specs.Graph.{EdgeData, HasEdge}
use Rattle.label_graphs.specs.Reach.{IsReached}

abbrev pub Marked : List Bool → ℕ → Type 0
Marked marks state = slice_index_or marks state false ≡ true

-- The states that are marked are those found, once each, and walks from this state lead to them.
pub record HasFound (rows : List (List EdgeData)) (from : ℕ) (marks : List Bool) (found : List ℕ) : Type 0 where
  pub size : length marks ≡ length rows
  pub count : count_by (λ mark. mark) marks ≡ length found
  pub reached : (state : ℕ) → Marked marks state → IsReached rows from state
  pub inside : (i : ℕ) → i < length found → slice_index found i < length rows
  pub marked : (i : ℕ) → i < length found → Marked marks (slice_index found i)
  pub listed : (state : ℕ) → Marked marks state → (i : ℕ) × (i < length found) × (slice_index found i ≡ state)

-- what the edges of the first found states lead to is marked
abbrev pub AreFollowed : List (List EdgeData) → List Bool → List ℕ → ℕ → Type 0
AreFollowed rows marks found at = (i block to : ℕ) → i < at → HasEdge rows (slice_index found i) block to → Marked marks to

-- the state is marked, and found if it was not marked before
abbrev pub IsTaken : ℕ → List Bool → List ℕ → List Bool → List ℕ → Type 0
IsTaken state marks found marks' found' =
    (Marked marks state × (found' ≡ found) × (marks' ≡ marks))
    ⊎ ((slice_index_or marks state false ≡ false) × (found' ≡ found ++ state ∷ []) × (marks' ≡ set marks state true))

-- These states are marked, and what was marked and found before is so still.
pub record AreTaken (states : List ℕ) (marks : List Bool) (found : List ℕ) (marks' : List Bool) (found' : List ℕ) : Type 0 where
  pub size : length marks' ≡ length marks
  pub front : (i : ℕ) → i < length found → (i < length found') × (slice_index found' i ≡ slice_index found i)
  pub stays : (state : ℕ) → Marked marks state → Marked marks' state
  pub marked : (k : ℕ) → k < length states → Marked marks' (slice_index states k)
  pub sound : (rows : List (List EdgeData)) (from : ℕ) → HasFound rows from marks found
      → ((k : ℕ) → k < length states → (slice_index states k < length rows) × IsReached rows from (slice_index states k))
      → HasFound rows from marks' found'

-- where the edges of a row lead
abbrev pub targets : List EdgeData → List ℕ
targets row = map (λ e. e.to) row
