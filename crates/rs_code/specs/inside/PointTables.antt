-- Tables of the values of monomials at alpha^0 to alpha^15.
use Rattle.std.specs.Prelude.{◌≡◌, ℕ, ◌+◌, ◌*◌, ◌/◌, ◌%◌, ◌<◌, List, slice_index}
use Rattle.gf256.specs.Field.{times, power, alpha}

-- the values of c x^degree
abbrev pub IsMonomial : ℕ → ℕ → List ℕ → Type 0
IsMonomial c degree found = (j : ℕ) → j < 16 → slice_index found j ≡ times c (power (power alpha j) degree)

-- row by row, sixteen rows for each degree from 1 to 16: the coefficients are the first sixteen multiples of the factor
abbrev pub AreMonomials : ℕ → List ℕ → Type 0
AreMonomials factor table = (n : ℕ) → n < 4096
    → slice_index table n ≡ times (factor * (n % 256 / 16)) (power (power alpha (n % 16)) (n / 256 + 1))

-- what each monomial is multiplied by to lead on to the next sixteen points
abbrev pub AreSteps : List ℕ → Type 0
AreSteps steps = (place : ℕ) → place < 16 → slice_index steps place ≡ power (power alpha 16) (place + 1)

-- sixteen powers of alpha in a row
abbrev pub ArePoints : ℕ → List ℕ → Type 0
ArePoints half points = (j : ℕ) → j < 16 → slice_index points j ≡ power alpha (16 * half + j)
