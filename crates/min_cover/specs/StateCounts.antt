-- How many raw states the words of a constraint have, and how many states its cover has.
use Rattle.std.specs.Prelude.{◌≡◌, ◌≢◌, ℕ, ◌<◌, List, length}
use Rattle.constraint_spec.specs.Constraint.{ConstraintData, IsWordOf}
use Rattle.constraint_spec.specs.RawState.{RawState, IsRawStateOf}
use Rattle.label_graphs.specs.Graph.{EdgeData}
use Rattle.label_graphs.specs.Cover.{IsCoverOf}

-- So many different raw states of words exist: raw 0 to raw (count - 1).
pub record HaveRawStates (c : ConstraintData) (count : ℕ) : Type 0 where
  pub raw : ℕ → RawState
  pub words : (i : ℕ) → i < count → (w : List ℕ) × IsWordOf c w × IsRawStateOf c w (raw i)
  pub different : (i j : ℕ) → i < j → j < count → raw i ≢ raw j

-- the constraint's words have a cover with so many states
abbrev pub HasCoverOf : ConstraintData → ℕ → Type 0
HasCoverOf c count = (rows : List (List EdgeData)) × (length rows ≡ count) × IsCoverOf (IsWordOf c) rows
