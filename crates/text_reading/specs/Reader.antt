-- What a reader reads: the texts of certain values, and nothing else.
use Rattle.std.specs.Prelude.{◌≡◌, ℕ, List, ◌++◌, Option, Some}

-- The reader reads exactly the texts of the values that Is holds of, whatever follows them.
pub record Reads {A : Type 0} (read : List ℕ → Option (A × List ℕ)) (text : A → List ℕ) (Is : A → Type 0) : Type 0 where
  -- what is spelled is read again
  pub again : (value : A) (rest : List ℕ) → Is value → read (text value ++ rest) ≡ Some (value, rest)
  -- what is read is spelled so
  pub takes : (bytes : List ℕ) (value : A) (rest : List ℕ) → read bytes ≡ Some (value, rest) → (bytes ≡ text value ++ rest) × Is value
