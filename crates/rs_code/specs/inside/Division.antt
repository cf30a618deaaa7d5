-- The extended division of x^(2 t) by the polynomial of the sums: its remainders, each with its factor.
use Rattle.std.specs.Prelude.{◌≡◌, ◌≢◌, ℕ, zero, suc, ◌+◌, ◌-◌, ◌*◌, ◌<◌, ◌≤◌, List, ◌∷◌, take, slice_index, All}
use Rattle.gf256.specs.Field.{IsElement, plus, times, power, inverse}
use Rattle.gf256.specs.Linear.{values, scaled}
use Rattle.rs_code.specs.declared.key_equation.Remainder.{Remainder}
use Rattle.rs_code.specs.Polynomial.{value_at, sum_of, product, IsBelowDegree}

-- x^n p
abbrev pub shifted : ℕ → List ℕ → List ℕ
shifted zero p = p
shifted (suc n) p = 0 ∷ shifted n p

-- the leading coefficient of p is at place n - 1; p is 0 where n is 0
pub record HasLength (n : ℕ) (p : List ℕ) : Type 0 where
  pub degree : IsBelowDegree n p
  pub leading : 0 < n → slice_index p (n - 1) ≢ 0

-- in the places below 2 t, a factor times the sums is the remainder
abbrev pub Leaves : ℕ → List ℕ → List ℕ → List ℕ → Type 0
Leaves t sums factor remainder = (i : ℕ) → i < 2 * t → slice_index (product factor sums) i ≡ slice_index remainder i

pub record IsRemainder (t : ℕ) (sums : List ℕ) (r : Remainder) : Type 0 where
  pub leaves : Leaves t sums (values r.factor) (values r.coefficients)
  pub has_length : HasLength r.length (values r.coefficients)
  pub short : r.length ≤ 2 * t + 1
  pub coefficients_in : All IsElement (values r.coefficients)
  pub factor_in : All IsElement (values r.factor)

-- each remainder times the factor of the other, at x: the sum of the two is x^(2 t)
abbrev pub Crosses : ℕ → Remainder → Remainder → ℕ → Type 0
Crosses t above here x =
    plus (times (value_at (values above.coefficients) x) (value_at (values here.factor) x))
    (times (value_at (values here.coefficients) x) (value_at (values above.factor) x)) ≡ power x (2 * t)

-- Two remainders in a row: the degrees of the remainders fall, those of the factors rise, and the degree
-- of the later factor and that of the earlier remainder are together 2 t.
pub record AreInARow (t : ℕ) (sums : List ℕ) (above here : Remainder) : Type 0 where
  pub first : IsRemainder t sums above
  pub second : IsRemainder t sums here
  pub shorter : here.length < above.length
  pub first_factor : IsBelowDegree (2 * t + 1 - above.length) (values above.factor)
  pub second_factor : HasLength (2 * t + 2 - above.length) (values here.factor)
  pub cross : (x : ℕ) → Crosses t above here x

-- a remainder can be divided by one that isn't 0
pub record CanDivide (rest here : Remainder) : Type 0 where
  pub some : 1 ≤ here.length
  pub within : rest.length ≤ 33
  pub short : here.length ≤ 32
  pub room : rest.length ≤ here.length + 16
  pub rest_length : HasLength rest.length (values rest.coefficients)
  pub here_length : HasLength here.length (values here.coefficients)
  pub rest_in : All IsElement (values rest.coefficients)
  pub here_in : All IsElement (values here.coefficients)

-- the quotient of the leading coefficients
abbrev pub ratio : Remainder → Remainder → ℕ
ratio rest here =
    times (slice_index (values rest.coefficients) (rest.length - 1)) (inverse (slice_index (values here.coefficients) (here.length - 1)))

-- the multiple of `here` is taken out that takes the leading coefficient away
pub record Reduces (rest here result : Remainder) : Type 0 where
  pub coefficients : values result.coefficients
      ≡ sum_of (values rest.coefficients) (scaled (ratio rest here) (shifted (rest.length - here.length) (take here.length (values here.coefficients))))
  pub factor : values result.factor
      ≡ sum_of (values rest.factor) (scaled (ratio rest here) (shifted (rest.length - here.length) (take 16 (values here.factor))))
  pub has_length : HasLength result.length (values result.coefficients)
  pub shorter : result.length < rest.length
