-- Polynomials over the two-element field, as numbers: the laws of their sum and product.
use Rattle.std.proofs.Common.{◌≡◌, ◌≢◌, ℕ, zero, suc, ◌+◌, ◌*◌, ◌/◌, ◌%◌, ◌^◌, ◌<◌, ◌≤◌, ◌⊎◌, inl, inr, refl, sym, ap, ap₂, ◌∙◌, arith}
use Rattle.std.specs.Int.{bit_at}
use Rattle.std.specs.Int.Bits.{xor_self, xor_zero_l, xor_zero_r, xor_assoc, xor_step, differ}
use Rattle.std.proofs.lemmas.Nat.{xor_comm, xor_lt}
use Rattle.std.proofs.lemmas.Bool.{cases_lt}
use Rattle.std.proofs.lemmas.Nat.Bits.{bit_at-suc, bit_at-zero, bit_at_lowest}
use Rattle.std.proofs.Math.Arith.{bin_ind, half_le}
use Rattle.std.proofs.Math.Nat.{pow-suc, le_refl, zero-mul, one-mul, mul-one, mul-zero}
use Rattle.gf256.specs.Field.{plus, shifted_sum, carryless_product}

-- ---- the sum

pub plus_comm : (a b : ℕ) → plus a b ≡ plus b a
unfolding plus
plus_comm a b = xor_comm a b

pub plus_assoc : (a b c : ℕ) → plus (plus a b) c ≡ plus a (plus b c)
unfolding plus
plus_assoc a b c = xor_assoc a b c

pub plus-zero : (a : ℕ) → plus a 0 ≡ a
unfolding plus
plus-zero a = xor_zero_r a

pub zero-plus : (a : ℕ) → plus 0 a ≡ a
unfolding plus
zero-plus a = xor_zero_l a

-- each polynomial is its own negative
pub plus_self : (a : ℕ) → plus a a ≡ 0
unfolding plus
plus_self a = xor_self a

pub plus_below : (k a b : ℕ) → a < 2 ^ k → b < 2 ^ k → plus a b < 2 ^ k
unfolding plus
plus_below k a b h h' = xor_lt k a b h h'

-- a sum taken away again
pub plus_self_left : (a b : ℕ) → plus a (plus a b) ≡ b
plus_self_left a b = sym (plus_assoc a a b) ∙ ap (λ s. plus s b) (plus_self a) ∙ zero-plus b

pub same_from_plus : (a b : ℕ) → plus a b ≡ 0 → a ≡ b
same_from_plus a b e = sym (plus-zero a) ∙ ap (λ s. plus a s) (sym e) ∙ plus_self_left a b

pub plus_left_comm : (a b c : ℕ) → plus a (plus b c) ≡ plus b (plus a c)
plus_left_comm a b c = sym (plus_assoc a b c) ∙ ap (λ s. plus s c) (plus_comm a b) ∙ plus_assoc b a c

-- four terms, the two in the middle exchanged
pub plus_exchange : (a b c d : ℕ) → plus (plus a b) (plus c d) ≡ plus (plus a c) (plus b d)
plus_exchange a b c d =
    plus_assoc a b (plus c d) ∙ ap (λ s. plus a s) (plus_left_comm b c d) ∙ sym (plus_assoc a c (plus b d))

-- the sum by constant term and the rest
pub plus_step : (a b : ℕ) → plus a b ≡ plus (a / 2) (b / 2) * 2 + differ (a % 2) (b % 2)
unfolding plus
plus_step a b = xor_step a b

pub plus-double : (a b : ℕ) → plus (2 * a) (2 * b) ≡ 2 * plus a b
plus-double a b =
    let half_a : (2 * a) / 2 ≡ a = omega arith in
    let half_b : (2 * b) / 2 ≡ b = omega arith in
    let even_a : (2 * a) % 2 ≡ 0 = omega arith in
    let even_b : (2 * b) % 2 ≡ 0 = omega arith in
    plus_step (2 * a) (2 * b) ∙ rw (half_a, half_b, even_a, even_b) (omega arith)

-- a number is x times its half, plus its constant term
pub plus-split : (h b : ℕ) → b < 2 → plus (2 * h) b ≡ 2 * h + b
plus-split h b below =
    let half : (2 * h) / 2 ≡ h = omega arith in
    let half_b : b / 2 ≡ 0 = omega arith in
    let even : (2 * h) % 2 ≡ 0 = omega arith in
    let rest : b % 2 ≡ b = omega arith in
    plus_step (2 * h) b ∙ rw (half, half_b, even, rest, plus-zero) (omega arith)

pub split : (a : ℕ) → a ≡ plus (2 * (a / 2)) (a % 2)
split a =
    let below : a % 2 < 2 = omega arith in
    let whole : 2 * (a / 2) + a % 2 ≡ a = omega arith in
    sym (plus-split (a / 2) (a % 2) below ∙ whole)

-- ---- a coefficient as a factor

pub below_two : (b : ℕ) → b < 2 → (b ≡ 0) ⊎ (b ≡ 1)
below_two zero h = inl refl
below_two (suc zero) h = inr refl
below_two (suc (suc b)) h = absurd (omega arith)

bit_ind : (P : ℕ → Type 0) → P 0 → P 1 → (b : ℕ) → b < 2 → P b
bit_ind P at_zero at_one zero h = at_zero
bit_ind P at_zero at_one (suc zero) h = at_one
bit_ind P at_zero at_one (suc (suc b)) h = absurd (omega arith)

differ_below : (x y : ℕ) → x < 2 → y < 2 → differ x y < 2
differ_below zero y h k = k
differ_below (suc x) zero h k = h
differ_below (suc zero) (suc zero) h k = omega arith
differ_below (suc zero) (suc (suc y)) h k = absurd (omega arith)
differ_below (suc (suc x)) (suc y) h k = absurd (omega arith)

differ_times : (x y z : ℕ) → x < 2 → y < 2 → differ x y % 2 * z ≡ plus (x * z) (y * z)
differ_times zero zero z h k = simp (zero-mul, zero-plus)
differ_times zero (suc zero) z h k = simp (zero-mul, one-mul, zero-plus)
differ_times (suc zero) zero z h k = simp (zero-mul, one-mul, plus-zero)
differ_times (suc zero) (suc zero) z h k = simp (zero-mul, one-mul, plus_self)
differ_times zero (suc (suc y)) z h k = absurd (omega arith)
differ_times (suc zero) (suc (suc y)) z h k = absurd (omega arith)
differ_times (suc (suc x)) y z h k = absurd (omega arith)

-- the constant term of a sum, as a factor
coefficient-plus : (a b c : ℕ) → plus a b % 2 * c ≡ plus (a % 2 * c) (b % 2 * c)
coefficient-plus a b c =
    let low : plus a b % 2 ≡ differ (a % 2) (b % 2) % 2 = rw (plus_step a b) (omega arith) in
    ap (λ x. x * c) low ∙ differ_times (a % 2) (b % 2) c (omega arith) (omega arith)

-- the rest of a sum
half-plus : (a b : ℕ) → plus a b / 2 ≡ plus (a / 2) (b / 2)
half-plus a b =
    let below : differ (a % 2) (b % 2) < 2 = differ_below (a % 2) (b % 2) (omega arith) (omega arith) in
    rw (plus_step a b) (omega arith)

coefficient_times-plus : (b c d : ℕ) → b % 2 * plus c d ≡ plus (b % 2 * c) (b % 2 * d)
coefficient_times-plus b c d =
    bit_ind (λ k. k * plus c d ≡ plus (k * c) (k * d)) (simp (zero-mul, zero-plus)) (simp one-mul) (b % 2) (omega arith)

-- ---- the product

shifted_sum-front : (n a b : ℕ) → shifted_sum (suc n) a b ≡ plus (b % 2 * a) (2 * shifted_sum n a (b / 2))
unfolding shifted_sum
shifted_sum-front zero a b = simp (zero-plus, plus-zero, bit_at_lowest, one-mul)
shifted_sum-front (suc n) a b =
    let shifted : bit_at b (suc n) * (2 ^ suc n * a) ≡ 2 * (bit_at (b / 2) n * (2 ^ n * a)) = shifted_term n a b in
    ap₂ (λ s t. plus s t) (shifted_sum-front n a b) shifted
    ∙ plus_assoc (b % 2 * a) (2 * shifted_sum n a (b / 2)) (2 * (bit_at (b / 2) n * (2 ^ n * a)))
    ∙ ap (λ s. plus (b % 2 * a) s) (plus-double (shifted_sum n a (b / 2)) (bit_at (b / 2) n * (2 ^ n * a)))
  where
    regroup : (x p y : ℕ) → x * (p * 2 * y) ≡ 2 * (x * (p * y))
    regroup x p y = omega arith

    shifted_term : (n a b : ℕ) → bit_at b (suc n) * (2 ^ suc n * a) ≡ 2 * (bit_at (b / 2) n * (2 ^ n * a))
    shifted_term n a b =
        ap₂ (λ x p. x * (p * a)) (bit_at-suc b n) (pow-suc 2 n) ∙ regroup (bit_at (b / 2) n) (2 ^ n) a

shifted_sum-zero : (n a : ℕ) → shifted_sum n a 0 ≡ 0
unfolding shifted_sum
shifted_sum-zero zero a = refl
shifted_sum-zero (suc n) a =
    ap₂ (λ s x. plus s (x * (2 ^ n * a))) (shifted_sum-zero n a) (bit_at-zero n) ∙ simp (zero-mul, zero-plus)

-- no term stands past the number's last coefficient
shifted_sum-enough : (n k a b : ℕ) → b ≤ n → b ≤ k → shifted_sum n a b ≡ shifted_sum k a b
shifted_sum-enough zero k a zero h h' = shifted_sum-zero 0 a ∙ sym (shifted_sum-zero k a)
shifted_sum-enough zero k a (suc b) h h' = absurd (omega arith)
shifted_sum-enough (suc n) zero a zero h h' = shifted_sum-zero (suc n) a ∙ sym (shifted_sum-zero 0 a)
shifted_sum-enough (suc n) zero a (suc b) h h' = absurd (omega arith)
shifted_sum-enough (suc n) (suc k) a b h h' =
    shifted_sum-front n a b
    ∙ ap (λ s. plus (b % 2 * a) (2 * s)) (shifted_sum-enough n k a (b / 2) (half_le h) (half_le h'))
    ∙ sym (shifted_sum-front k a b)

pub product-zero : (a : ℕ) → carryless_product a 0 ≡ 0
unfolding carryless_product
product-zero a = shifted_sum-zero 0 a

-- with b = x h + c for its constant term c, a b is x (a h) + c a
pub product-step : (a b : ℕ) → carryless_product a b ≡ plus (b % 2 * a) (2 * carryless_product a (b / 2))
unfolding carryless_product
product-step a zero =
    product-zero a ∙ sym (ap (λ s. plus (0 * a) (2 * s)) (product-zero a) ∙ simp (zero-mul, zero-plus))
product-step a (suc b) =
    shifted_sum-front b a (suc b)
    ∙ ap (λ s. plus (suc b % 2 * a) (2 * s)) (shifted_sum-enough b (suc b / 2) a (suc b / 2) (half_le (le_refl (suc b))) (le_refl (suc b / 2)))

pub zero-product : (b : ℕ) → carryless_product 0 b ≡ 0
zero-product b =
    bin_ind (λ n. carryless_product 0 n ≡ 0) (product-zero 0)
    (λ n h. product-step 0 n ∙ ap (λ s. plus (n % 2 * 0) (2 * s)) h ∙ simp (mul-zero, zero-plus)) b

pub product-double : (a b : ℕ) → carryless_product a (2 * b) ≡ 2 * carryless_product a b
product-double a b =
    let half : (2 * b) / 2 ≡ b = omega arith in
    let even : (2 * b) % 2 ≡ 0 = omega arith in
    product-step a (2 * b) ∙ ap₂ (λ k h. plus (k * a) (2 * carryless_product a h)) even half ∙ simp (zero-mul, zero-plus)

pub double-product : (a b : ℕ) → carryless_product (2 * a) b ≡ 2 * carryless_product a b
double-product a b =
    bin_ind (λ n. carryless_product (2 * a) n ≡ 2 * carryless_product a n)
    (product-zero (2 * a) ∙ sym (ap (λ s. 2 * s) (product-zero a)))
    (λ n h.
    product-step (2 * a) n
    ∙ ap₂ (λ s t. plus s (2 * t)) (regroup (n % 2) a) h
    ∙ plus-double (n % 2 * a) (2 * carryless_product a (n / 2))
    ∙ ap (λ s. 2 * s) (sym (product-step a n)))
    b
  where
    regroup : (x y : ℕ) → x * (2 * y) ≡ 2 * (x * y)
    regroup x y = omega arith

pub product-one : (a : ℕ) → carryless_product a 1 ≡ a
product-one a = product-step a 1 ∙ ap (λ s. plus (1 * a) (2 * s)) (product-zero a) ∙ simp (one-mul, plus-zero)

pub one-product : (b : ℕ) → carryless_product 1 b ≡ b
one-product b =
    bin_ind (λ n. carryless_product 1 n ≡ n) (product-zero 1)
    (λ n h.
    product-step 1 n
    ∙ ap₂ (λ s t. plus s (2 * t)) (mul-one (n % 2)) h
    ∙ plus_comm (n % 2) (2 * (n / 2))
    ∙ sym (split n))
    b

pub product-plus : (a b c : ℕ) → carryless_product a (plus b c) ≡ plus (carryless_product a b) (carryless_product a c)
product-plus a b =
    bin_ind (λ n. (c : ℕ) → carryless_product a (plus n c) ≡ plus (carryless_product a n) (carryless_product a c))
    (λ c. ap (λ s. carryless_product a s) (zero-plus c) ∙ sym (ap (λ s. plus s (carryless_product a c)) (product-zero a) ∙ zero-plus (carryless_product a c)))
    (λ n h c.
    product-step a (plus n c)
    ∙ ap₂ (λ s t. plus s (2 * t)) (coefficient-plus n c a) (ap (λ s. carryless_product a s) (half-plus n c) ∙ h (c / 2))
    ∙ ap (λ s. plus (plus (n % 2 * a) (c % 2 * a)) s) (sym (plus-double (carryless_product a (n / 2)) (carryless_product a (c / 2))))
    ∙ plus_exchange (n % 2 * a) (c % 2 * a) (2 * carryless_product a (n / 2)) (2 * carryless_product a (c / 2))
    ∙ ap₂ (λ s t. plus s t) (sym (product-step a n)) (sym (product-step a c)))
    b

pub plus-product : (a b c : ℕ) → carryless_product (plus a b) c ≡ plus (carryless_product a c) (carryless_product b c)
plus-product a b c =
    bin_ind (λ n. carryless_product (plus a b) n ≡ plus (carryless_product a n) (carryless_product b n))
    (product-zero (plus a b) ∙ sym (ap₂ (λ s t. plus s t) (product-zero a) (product-zero b) ∙ zero-plus 0))
    (λ n h.
    product-step (plus a b) n
    ∙ ap₂ (λ s t. plus s (2 * t)) (coefficient_times-plus n a b) h
    ∙ ap (λ s. plus (plus (n % 2 * a) (n % 2 * b)) s) (sym (plus-double (carryless_product a (n / 2)) (carryless_product b (n / 2))))
    ∙ plus_exchange (n % 2 * a) (n % 2 * b) (2 * carryless_product a (n / 2)) (2 * carryless_product b (n / 2))
    ∙ ap₂ (λ s t. plus s t) (sym (product-step a n)) (sym (product-step b n)))
    c

coefficient-product : (n b : ℕ) → carryless_product (n % 2) b ≡ n % 2 * b
coefficient-product n b =
    bit_ind (λ k. carryless_product k b ≡ k * b) (zero-product b ∙ sym (zero-mul b)) (one-product b ∙ sym (one-mul b)) (n % 2) (omega arith)

product-coefficient : (a n b : ℕ) → carryless_product a (n % 2 * b) ≡ n % 2 * carryless_product a b
product-coefficient a n b =
    bit_ind (λ k. carryless_product a (k * b) ≡ k * carryless_product a b)
    (ap (λ s. carryless_product a s) (zero-mul b) ∙ product-zero a ∙ sym (zero-mul (carryless_product a b)))
    (ap (λ s. carryless_product a s) (one-mul b) ∙ sym (one-mul (carryless_product a b)))
    (n % 2) (omega arith)

pub product_comm : (a b : ℕ) → carryless_product a b ≡ carryless_product b a
product_comm a b =
    bin_ind (λ n. carryless_product a n ≡ carryless_product n a) (product-zero a ∙ sym (zero-product a))
    (λ n h.
    product-step a n
    ∙ ap (λ s. plus (n % 2 * a) (2 * s)) h
    ∙ plus_comm (n % 2 * a) (2 * carryless_product (n / 2) a)
    ∙ ap₂ (λ s t. plus s t) (sym (double-product (n / 2) a)) (sym (coefficient-product n a))
    ∙ sym (plus-product (2 * (n / 2)) (n % 2) a)
    ∙ ap (λ s. carryless_product s a) (sym (split n)))
    b

pub product_assoc : (a b c : ℕ) → carryless_product (carryless_product a b) c ≡ carryless_product a (carryless_product b c)
product_assoc a b c =
    bin_ind (λ n. carryless_product (carryless_product a b) n ≡ carryless_product a (carryless_product b n))
    (product-zero (carryless_product a b) ∙ sym (ap (λ s. carryless_product a s) (product-zero b) ∙ product-zero a))
    (λ n h.
    product-step (carryless_product a b) n
    ∙ ap₂ (λ s t. plus s (2 * t)) (sym (product-coefficient a n b)) h
    ∙ ap (λ s. plus (carryless_product a (n % 2 * b)) s) (sym (product-double a (carryless_product b (n / 2))))
    ∙ sym (product-plus a (n % 2 * b) (2 * carryless_product b (n / 2)))
    ∙ ap (λ s. carryless_product a s) (sym (product-step b n)))
    c

-- ---- degrees

-- a sum with a lower polynomial keeps its degree
plus_high : (k a b : ℕ) → 2 ^ k ≤ a → b < 2 ^ k → 2 ^ k ≤ plus a b
plus_high k a b high low =
    elim (cases_lt (plus a b) (2 ^ k)) as (λ _. 2 ^ k ≤ plus a b) [
      | inl below ↦
          let back : plus b (plus a b) ≡ a = ap (λ s. plus b s) (plus_comm a b) ∙ plus_self_left b a in
          let small : plus b (plus a b) < 2 ^ k = plus_below k b (plus a b) low below in
          absurd (omega arith)
      | inr above ↦ above
    ]

-- a multiple of a polynomial of degree 8 is 0 or has a degree of at least 8
pub product_high : (m n : ℕ) → 256 ≤ m → m < 512 → n ≢ 0 → 256 ≤ carryless_product m n
product_high m n high low =
    bin_ind (λ k. k ≢ 0 → 256 ≤ carryless_product m k) (λ ne. absurd (ne refl))
    (λ k h ne.
    elim (cases_lt 0 (k / 2)) as (λ _. 256 ≤ carryless_product m k) [
      | inl positive ↦
          let rest : 256 ≤ carryless_product m (k / 2) = h (omega arith) in
          let last : k % 2 * m < 512 = bit_ind (λ c. c * m < 512) (omega arith) (omega arith) (k % 2) (omega arith) in
          let whole : 512 ≤ plus (2 * carryless_product m (k / 2)) (k % 2 * m) = plus_high 9 (2 * carryless_product m (k / 2)) (k % 2 * m) (omega arith) last in
          let same : carryless_product m k ≡ plus (2 * carryless_product m (k / 2)) (k % 2 * m) = product-step m k ∙ plus_comm (k % 2 * m) (2 * carryless_product m (k / 2)) in
          omega arith
      | inr zero_half ↦
          let one : k ≡ 1 = omega arith in
          let same : carryless_product m k ≡ m = ap (λ s. carryless_product m s) one ∙ product-one m in
          omega arith
    ])
    n
