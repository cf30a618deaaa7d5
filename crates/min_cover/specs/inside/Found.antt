-- What the search of the raw states has found.
use Rattle.std.specs.Prelude.{◌≡◌, ◌≢◌, ◌⊎◌, ℕ, ◌<◌, ◌≤◌, List, [], ◌∷◌, ◌++◌, length, map, slice_index_or, Option, Some, None, Result, Ok, Err, All}
use Rattle.constraint_spec.specs.Constraint.{ConstraintData}
use Rattle.constraint_spec.specs.RawState.{RawState}
use Rattle.constraint_spec.specs.RawStateOf.{first_raw_state}
use Rattle.min_cover.specs.declared.fault.CoverFault.{CoverFault}
use Rattle.min_cover.specs.declared.fault.CoverFault.TheVariants.{RawStates, CoverStates, NoMemory}
use Rattle.min_cover.specs.declared.raw_states.StateKey.{StateKey}
use Rattle.min_cover.specs.StateCounts.{HaveRawStates}
use Rattle.min_cover.specs.inside.Raw.{step_raw}
use Rattle.min_cover.specs.inside.Search.{IsSearching}
use Rattle.min_cover.specs.inside.States.{raw_of}

-- the raw state with a number
abbrev pub raw_at : ConstraintData → List StateKey → ℕ → RawState
raw_at c keys i = slice_index_or (map raw_of keys) i (first_raw_state c)

-- the number of the state after the symbol, in rows of a place for each symbol
abbrev pub next_in : List (List (Option ℕ)) → ℕ → ℕ → Option ℕ
next_in rows i symbol = slice_index_or (slice_index_or rows i []) symbol None

-- The search has the full rows of some states, and the row in hand of the next one.
pub record IsFoundSoFar (c : ConstraintData) (keys : List StateKey) (rows : List (List (Option ℕ))) (row : List (Option ℕ)) : Type 0 where
  pub word : ℕ → List ℕ
  pub searching : IsSearching (step_raw c) (first_raw_state c) (next_in (rows ++ row ∷ [])) (length keys) (raw_at c keys) word (length rows) (length row)
  pub different : (i j : ℕ) → i < j → j < length keys → raw_at c keys i ≢ raw_at c keys j

-- the raw state was found before, with this number
pub record IsKnown (c : ConstraintData) (old : List StateKey) (raw : RawState) (new : List StateKey) (number : ℕ) : Type 0 where
  pub same : new ≡ old
  pub inside : number < length old
  pub there : raw_at c old number ≡ raw

-- the raw state is a new one
pub record IsAdded (c : ConstraintData) (old : List StateKey) (raw : RawState) (new : List StateKey) : Type 0 where
  pub key : StateKey
  pub joined : new ≡ old ++ key ∷ []
  pub seen : raw_of key ≡ raw
  pub other : (i : ℕ) → i < length old → raw_at c old i ≢ raw

-- the number that a raw state gets
abbrev pub NumbersRaw : ConstraintData → List StateKey → RawState → List StateKey → Result ℕ CoverFault → Type 0
NumbersRaw c old raw new (Ok number) = IsKnown c old raw new number
    ⊎ (IsAdded c old raw new × (number ≡ length old) × (number < 4096))
NumbersRaw c old raw new (Err (RawStates count)) = IsAdded c old raw new × (length old ≡ 4096) × (count ≡ 4097)
NumbersRaw c old raw new (Err (CoverStates count)) = ⊥
NumbersRaw c old raw new (Err NoMemory) = Unit {0}

-- the number of the state after a symbol
abbrev pub Follows : ConstraintData → List StateKey → ℕ → ℕ → List StateKey → Result (Option ℕ) CoverFault → Type 0
Follows c old at symbol new (Ok None) = (new ≡ old) × (step_raw c (raw_at c old at) symbol ≡ None)
Follows c old at symbol new (Ok (Some number)) =
    (raw : RawState) × (step_raw c (raw_at c old at) symbol ≡ Some raw) × NumbersRaw c old raw new (Ok number)
Follows c old at symbol new (Err fault) =
    (fault ≡ NoMemory) ⊎ ((raw : RawState) × (step_raw c (raw_at c old at) symbol ≡ Some raw) × NumbersRaw c old raw new (Err fault))

-- why the search ends early
abbrev pub IsSearchFault : ConstraintData → CoverFault → Type 0
IsSearchFault c (RawStates count) = HaveRawStates c 4097 × (count ≡ 4097)
IsSearchFault c (CoverStates count) = ⊥
IsSearchFault c NoMemory = Unit {0}

-- the rows of all states that there are
pub record AreFollowers (c : ConstraintData) (rows : List (List (Option ℕ))) : Type 0 where
  pub keys : List StateKey
  pub found : IsFoundSoFar c keys rows []
  pub all : length rows ≡ length keys
  pub few : length rows ≤ 4096
  pub width : All (λ row. length row ≡ c.alphabet) rows
