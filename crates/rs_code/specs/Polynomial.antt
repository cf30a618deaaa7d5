-- Polynomials over the field, as the lists of their coefficients from the constant term on. Places past
-- the end of a list are 0.
use Rattle.std.specs.Prelude.{◌≡◌, ℕ, ◌≤◌, List, [], ◌∷◌, slice_index}
use Rattle.gf256.specs.Field.{plus, times}
use Rattle.gf256.specs.Linear.{scaled}

-- the value at x
abbrev pub value_at : List ℕ → ℕ → ℕ
value_at [] x = 0
value_at (constant ∷ higher) x = plus constant (times x (value_at higher x))

-- the sum, as long as the longer list
abbrev pub sum_of : List ℕ → List ℕ → List ℕ
sum_of [] q = q
sum_of (a ∷ p) [] = a ∷ p
sum_of (a ∷ p) (b ∷ q) = plus a b ∷ sum_of p q

-- the product: the constant term times q, and x times the product of the higher part and q
abbrev pub product : List ℕ → List ℕ → List ℕ
product [] q = []
product (constant ∷ higher) q = sum_of (scaled constant q) (0 ∷ product higher q)

-- the degree is below n: the coefficients are 0 from place n on
abbrev pub IsBelowDegree : ℕ → List ℕ → Type 0
IsBelowDegree n p = (k : ℕ) → n ≤ k → slice_index p k ≡ 0
