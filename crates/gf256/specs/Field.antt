-- The field of 256 elements. A polynomial over the two-element field is written as the number whose
-- bit i is the coefficient of x^i, so an element, a polynomial of degree below 8, is a byte.
use Rattle.std.specs.Prelude.{◌≡◌, ℕ, zero, suc, ◌*◌, ◌/◌, ◌%◌, ◌^◌, ◌<◌, nat_lt, bit_xor, if◌then◌else◌}
use Rattle.std.specs.Int.{bit_at}

-- a polynomial of degree below 8
abbrev pub IsElement : ℕ → Type 0
IsElement a = a < 256

-- the sum of two polynomials: coefficient by coefficient, modulo 2
unfoldable pub plus : ℕ → ℕ → ℕ
plus a b = bit_xor a b

-- the sum of the x^i a over the places i below n at which b has the coefficient 1
unfoldable pub shifted_sum : ℕ → ℕ → ℕ → ℕ
shifted_sum zero a b = 0
shifted_sum (suc n) a b = plus (shifted_sum n a b) (bit_at b n * (2 ^ n * a))

-- the product of two polynomials; the number b has no coefficient 1 at place b or above
unfoldable pub carryless_product : ℕ → ℕ → ℕ
carryless_product a b = shifted_sum b a b

-- x^8 + x^4 + x^3 + x^2 + 1, which is irreducible
abbrev pub modulus : ℕ
modulus = 285

-- c is the product of a and b in the field: an element, and the remainder of the polynomial product
pub record IsProduct (a b c : ℕ) : Type 0 where
  pub element : IsElement c
  pub quotient : ℕ
  pub division : carryless_product a b ≡ plus (carryless_product quotient modulus) c

-- the remainder of x r for an element r: from degree 8 the modulus is taken away once
unfoldable pub shift_step : ℕ → ℕ
shift_step r = if nat_lt r 128 then 2 * r else plus (2 * r) modulus

-- the remainder of p by long division, from the coefficient at place n - 1 down to the constant term
unfoldable pub remainder_from : ℕ → ℕ → ℕ
remainder_from zero p = 0
remainder_from (suc n) p = plus (shift_step (remainder_from n (p / 2))) (p % 2)

-- the one element c with `IsProduct a b c`
unfoldable pub times : ℕ → ℕ → ℕ
times a b = let p = carryless_product a b in remainder_from p p

-- a to the power n; every element to the power 0 is 1
unfoldable pub power : ℕ → ℕ → ℕ
power a zero = 1
power a (suc n) = times a (power a n)

-- the element x, whose powers are all the elements but 0
abbrev pub alpha : ℕ
alpha = 2

-- the inverse of an element that is not 0, whose power 255 is 1
unfoldable pub inverse : ℕ → ℕ
inverse a = power a 254
