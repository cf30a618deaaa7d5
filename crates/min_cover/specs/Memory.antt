-- The memory of a constraint: how many last symbols of a word tell what may follow it.
use Rattle.std.specs.Prelude.{◌≡◌, ℕ, ◌<◌, List, ◌++◌, length}
use Rattle.constraint_spec.specs.Constraint.{ConstraintData, IsWordOf}

-- two words of the constraint that share so many symbols, the end of the one and the front of the other, join to a word
abbrev pub JoinsBy : ConstraintData → ℕ → Type 0
JoinsBy c n =
    (u w v : List ℕ) → length w ≡ n → IsWordOf c (u ++ w) → IsWordOf c (w ++ v) → IsWordOf c (u ++ (w ++ v))

-- the memory is the least such number
pub record IsMemoryOf (c : ConstraintData) (n : ℕ) : Type 0 where
  pub joins : JoinsBy c n
  pub least : (m : ℕ) → m < n → JoinsBy c m → ⊥
