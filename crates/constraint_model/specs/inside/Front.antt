-- What the test of a word keeps of the part that it has read, which it reads from the end.
use Rattle.std.specs.Prelude.{◌≡◌, ◌≢◌, ℕ, ◌+◌, List, [], ◌∷◌, ◌++◌, replicate, Option, Some, None}
use Rattle.constraint_spec.specs.Constraint.{ConstraintData, IsWordOf}
use Rattle.constraint_model.specs.RunLength.{run_length}
use Rattle.constraint_model.specs.declared.words.Front.{Front}
use Rattle.constraint_model.specs.declared.words.Limits.{Limits}

-- the constraint that the limits stand for
abbrev pub limited : Limits → ConstraintData
limited limits = run_length limits.alphabet limits.d (Some limits.most)

-- how long a run of 0s in front of the rest has to be where a 1 comes before it
abbrev pub IsDemand : ℕ → List ℕ → ℕ → Type 0
IsDemand d [] least = least ≡ 0
IsDemand d (symbol ∷ rest) least = (symbol ≢ 0) × (symbol ≡ 1 → least ≡ d) × (symbol ≢ 1 → least ≡ 0)

-- the front of a word with the symbol before it
pub record IsLengthened (d : ℕ) (front : Front) (symbol : ℕ) (longer : Front) : Type 0 where
  pub zero : symbol ≡ 0 → (longer.zeros ≡ front.zeros + 1) × (longer.least ≡ front.least)
  pub one : symbol ≡ 1 → (longer.zeros ≡ 0) × (longer.least ≡ d)
  pub other : symbol ≢ 0 → symbol ≢ 1 → (longer.zeros ≡ 0) × (longer.least ≡ 0)

-- The part that was read is a word, which begins with the front.
pub record IsRead (limits : Limits) (front : Front) (w : List ℕ) : Type 0 where
  pub word : IsWordOf (limited limits) w
  pub rest : List ℕ
  pub joined : w ≡ replicate front.zeros 0 ++ rest
  pub demand : IsDemand limits.d rest front.least

-- the front of what was read with one more symbol before it, or that this is no word
abbrev pub IsExtended : Limits → Front → ℕ → Option Front → Type 0
IsExtended limits front symbol None =
    (w : List ℕ) → IsRead limits front w → IsWordOf (limited limits) (symbol ∷ w) → ⊥
IsExtended limits front symbol (Some longer) =
    (w : List ℕ) → IsRead limits front w → IsRead limits longer (symbol ∷ w)
