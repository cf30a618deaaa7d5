-- What the steps of a correction find: the errors that the sums of a received word show.
use Rattle.std.specs.Prelude.{◌≡◌, ◌≢◌, ℕ, Bool, true, false, zero, suc, ◌<◌, ◌≤◌, List, [], ◌∷◌, ◌++◌, length, map, All, nat_eq, if◌then◌else◌}
use Rattle.gf256.specs.Field.{IsElement, plus, times, power, alpha, inverse}
use Rattle.rs_code.specs.Polynomial.{value_at}
use Rattle.rs_code.specs.Laws.{AreSums}

-- the number of symbols that are not 0
abbrev pub weight : List ℕ → ℕ
weight [] = 0
weight (zero ∷ ys) = weight ys
weight (suc n ∷ ys) = suc (weight ys)

-- m symbols, of which at most t are not 0, with the given sums
pub record IsErrorPattern (t m : ℕ) (sums errors : List ℕ) : Type 0 where
  pub same_length : length errors ≡ m
  pub elements : All IsElement errors
  pub few : weight errors ≤ t
  pub sums_agree : AreSums t errors sums

-- the sum of the products of the values and the powers i of their points
abbrev pub moment : List ℕ → List ℕ → ℕ → ℕ
moment [] xs i = 0
moment (y ∷ ys) [] i = 0
moment (y ∷ ys) (x ∷ xs) i = plus (times y (power x i)) (moment ys xs i)

-- the sum of a list
abbrev pub sum_of_terms : List ℕ → ℕ
sum_of_terms [] = 0
sum_of_terms (x ∷ xs) = plus x (sum_of_terms xs)

-- x is none of the points
abbrev pub IsApart : ℕ → List ℕ → Type 0
IsApart x [] = Unit {0}
IsApart x (z ∷ zs) = (z ≢ x) × IsApart x zs

abbrev pub AreDistinct : List ℕ → Type 0
AreDistinct [] = Unit {0}
AreDistinct (x ∷ xs) = IsApart x xs × AreDistinct xs

-- the powers of alpha with the given exponents
abbrev pub powers : List ℕ → List ℕ
powers exponents = map (power alpha) exponents

-- the coefficients at every other place, from the constant term on where `kept` holds, and 0 at the others
abbrev pub every_other : Bool → List ℕ → List ℕ
every_other kept [] = []
every_other true (c ∷ p) = c ∷ every_other false p
every_other false (c ∷ p) = 0 ∷ every_other true p

-- v is the only value that an error at the power of alpha with the exponent n can have, where the
-- evaluator isn't 0 at the inverse of its point
abbrev pub IsErrorValue : List ℕ → List ℕ → ℕ → ℕ → Type 0
IsErrorValue locator evaluator n v =
    let z = inverse (power alpha n) in (error : ℕ) → IsElement error → value_at evaluator z ≢ 0
    → value_at evaluator z ≡ times error (value_at (every_other false locator) z) → v ≡ error

-- every number is below n
abbrev pub AreBelow : ℕ → List ℕ → Type 0
AreBelow n [] = Unit {0}
AreBelow n (k ∷ ks) = (k < n) × AreBelow n ks

-- the polynomial is 0 at every point
abbrev pub HasRoots : List ℕ → List ℕ → Type 0
HasRoots p [] = Unit {0}
HasRoots p (x ∷ xs) = (value_at p x ≡ 0) × HasRoots p xs

-- x^t p(1/x)
abbrev pub turned : ℕ → List ℕ → ℕ → ℕ
turned t p x = times (power x t) (value_at p (inverse x))

-- the exponents below n, in rising order, at whose powers of alpha the polynomial is 0
abbrev pub root_exponents : List ℕ → ℕ → List ℕ
root_exponents p zero = []
root_exponents p (suc n) = root_exponents p n ++ (if nat_eq (value_at p (power alpha n)) 0 then n ∷ [] else [])

-- a symbol is not 0 only where the polynomial is 0 at the power of alpha that belongs to its place
abbrev pub IsRooted : List ℕ → List ℕ → Type 0
IsRooted p [] = Unit {0}
IsRooted p (symbol ∷ rest) = (symbol ≢ 0 → value_at p (power alpha (length rest)) ≡ 0) × IsRooted p rest
