-- The laws of the field, for whoever computes with elements. Where a law has no premise, it holds of all
-- numbers, since a product is always an element.
use Rattle.std.proofs.Common.{◌≡◌, ◌≢◌, ℕ, zero, suc, ◌+◌, ◌*◌, ◌/◌, ◌%◌, ◌<◌, ◌⊎◌, inl, inr, get_or, refl, sym, ap, ap₂, ◌∙◌, subst, arith}
use Rattle.std.proofs.lemmas.Bool.{cases_eq}
use Rattle.std.proofs.Math.Nat.{suc-add, zero-add, mul_comm, mul-zero}
use Rattle.gf256.specs.Field.{IsElement, plus, carryless_product, times, IsProduct, power, alpha, inverse}
use Rattle.gf256.specs.declared.tables.TheConstants.{LOGARITHMS}
use Rattle.gf256.proofs.Polynomials.{plus_self_left, plus_below, product_comm, product_assoc, product-zero, product-one, product-plus}
use Rattle.gf256.proofs.Remainders.{IsRemainder, IsRemainder-single, IsRemainder-element, IsRemainder-plus, times-IsRemainder, times_from_remainder, times-times-IsRemainder, alpha-times}
use Rattle.gf256.proofs.PowerTables.{steps, steps-lt, steps-255, steps-LOGARITHMS, LOGARITHMS-steps}
-- ---- the sum

-- elements are polynomials, and so are their sums
pub use Rattle.gf256.proofs.Polynomials.{plus_comm, plus_assoc, plus_exchange, plus-zero, zero-plus, plus_self, same_from_plus}

pub plus_cancel_left : (a b c : ℕ) → plus a b ≡ plus a c → b ≡ c
plus_cancel_left a b c e =
    sym (plus_self_left a b) ∙ ap (λ s. plus a s) e ∙ plus_self_left a c

pub plus-lt : (a b : ℕ) → IsElement a → IsElement b → IsElement (plus a b)
plus-lt a b a_in b_in = plus_below 8 a b a_in b_in

-- ---- the product

-- the definition of the product: the remainder of the polynomial product ..
pub IsProduct-times : (a b : ℕ) → IsProduct a b (times a b)
IsProduct-times a b =
    let h = times-IsRemainder a b in
    record { element = h.element; quotient = h.quotient; division = h.division }

-- .. which is the only one
pub IsProduct-single : (a b c d : ℕ) → IsProduct a b c → IsProduct a b d → c ≡ d
IsProduct-single a b c d h k =
    IsRemainder-single (carryless_product a b) c d
    (record { element = h.element; quotient = h.quotient; division = h.division })
    (record { element = k.element; quotient = k.quotient; division = k.division })

pub times-lt : (a b : ℕ) → IsElement (times a b)
times-lt a b = (times-IsRemainder a b).element

pub times_comm : (a b : ℕ) → times a b ≡ times b a
times_comm a b =
    times_from_remainder a b (times b a)
    (subst (λ s. IsRemainder s (times b a)) (product_comm b a) (times-IsRemainder b a))

pub times_assoc : (a b c : ℕ) → times (times a b) c ≡ times a (times b c)
times_assoc a b c =
    let left = times-times-IsRemainder a b c in
    let right = times-times-IsRemainder b c a in
    let same : carryless_product (carryless_product b c) a ≡ carryless_product (carryless_product a b) c =
    product_comm (carryless_product b c) a ∙ sym (product_assoc a b c) in
    IsRemainder-single (carryless_product (carryless_product a b) c) (times (times a b) c) (times (times b c) a) left
    (subst (λ s. IsRemainder s (times (times b c) a)) same right)
    ∙ times_comm (times b c) a

pub times_left_comm : (a b c : ℕ) → times a (times b c) ≡ times b (times a c)
times_left_comm a b c =
    sym (times_assoc a b c) ∙ ap (λ s. times s c) (times_comm a b) ∙ times_assoc b a c

pub times-zero : (a : ℕ) → times a 0 ≡ 0
times-zero a =
    times_from_remainder a 0 0
    (subst (λ s. IsRemainder s 0) (sym (product-zero a)) (IsRemainder-element 0 (omega arith)))

pub zero-times : (a : ℕ) → times 0 a ≡ 0
zero-times a = times_comm 0 a ∙ times-zero a

pub times-one : (a : ℕ) → IsElement a → times a 1 ≡ a
times-one a a_in =
    times_from_remainder a 1 a
    (subst (λ s. IsRemainder s a) (sym (product-one a)) (IsRemainder-element a a_in))

pub one-times : (a : ℕ) → IsElement a → times 1 a ≡ a
one-times a a_in = times_comm 1 a ∙ times-one a a_in

pub times-plus : (a b c : ℕ) → times a (plus b c) ≡ plus (times a b) (times a c)
times-plus a b c =
    times_from_remainder a (plus b c) (plus (times a b) (times a c))
    (subst (λ s. IsRemainder s (plus (times a b) (times a c))) (sym (product-plus a b c))
    (IsRemainder-plus (carryless_product a b) (carryless_product a c) (times a b) (times a c) (times-IsRemainder a b) (times-IsRemainder a c)))

pub plus-times : (a b c : ℕ) → times (plus a b) c ≡ plus (times a c) (times b c)
plus-times a b c =
    times_comm (plus a b) c ∙ times-plus c a b ∙ ap₂ (λ s t. plus s t) (times_comm c a) (times_comm c b)

-- ---- powers

pub power-zero : (a : ℕ) → power a 0 ≡ 1
unfolding power
power-zero a = refl

pub power-suc : (a n : ℕ) → power a (suc n) ≡ times a (power a n)
unfolding power
power-suc a n = refl

pub power-one : (a : ℕ) → IsElement a → power a 1 ≡ a
power-one a a_in = power-suc a 0 ∙ ap (λ s. times a s) (power-zero a) ∙ times-one a a_in

pub one-power : (n : ℕ) → power 1 n ≡ 1
one-power zero = power-zero 1
one-power (suc n) = power-suc 1 n ∙ ap (λ s. times 1 s) (one-power n) ∙ one-times 1 (omega arith)

pub zero-power : (n : ℕ) → power 0 (suc n) ≡ 0
zero-power n = power-suc 0 n ∙ zero-times (power 0 n)

pub zero-power-ne_zero : (n : ℕ) → n ≢ 0 → power 0 n ≡ 0
zero-power-ne_zero zero ne = absurd (ne refl)
zero-power-ne_zero (suc n) ne = zero-power n

pub power-lt : (a n : ℕ) → IsElement (power a n)
power-lt a zero = let e = power-zero a in omega arith
power-lt a (suc n) = subst IsElement (sym (power-suc a n)) (times-lt a (power a n))

pub power-add : (a m n : ℕ) → power a (m + n) ≡ times (power a m) (power a n)
power-add a zero n =
    ap (λ k. power a k) (zero-add n)
    ∙ sym (ap (λ s. times s (power a n)) (power-zero a) ∙ one-times (power a n) (power-lt a n))
power-add a (suc m) n =
    ap (λ k. power a k) (suc-add m n)
    ∙ power-suc a (m + n)
    ∙ ap (λ s. times a s) (power-add a m n)
    ∙ sym (times_assoc a (power a m) (power a n))
    ∙ ap (λ s. times s (power a n)) (sym (power-suc a m))

pub power-mul : (a m n : ℕ) → power a (m * n) ≡ power (power a m) n
power-mul a m zero = ap (λ k. power a k) (mul-zero m) ∙ power-zero a ∙ sym (power-zero (power a m))
power-mul a m (suc n) =
    let more : m * suc n ≡ m + m * n = omega arith in
    ap (λ k. power a k) more
    ∙ power-add a m (m * n)
    ∙ ap (λ s. times (power a m) s) (power-mul a m n)
    ∙ sym (power-suc (power a m) n)

pub times-power : (a b n : ℕ) → power (times a b) n ≡ times (power a n) (power b n)
times-power a b zero =
    power-zero (times a b)
    ∙ sym (ap₂ (λ s t. times s t) (power-zero a) (power-zero b) ∙ one-times 1 (omega arith))
times-power a b (suc n) =
    power-suc (times a b) n
    ∙ ap (λ s. times (times a b) s) (times-power a b n)
    ∙ times_assoc a b (times (power a n) (power b n))
    ∙ ap (λ s. times a s) (times_left_comm b (power a n) (power b n))
    ∙ sym (times_assoc a (power a n) (times b (power b n)))
    ∙ sym (ap₂ (λ s t. times s t) (power-suc a n) (power-suc b n))

-- ---- the powers of alpha

pub one_not_zero : (a : ℕ) → a ≡ 1 → a ≡ 0 → ⊥
one_not_zero a is_one is_zero = omega arith

pub power-steps : (n : ℕ) → power alpha n ≡ steps n
unfolding steps
power-steps zero = power-zero alpha
power-steps (suc n) =
    power-suc alpha n ∙ ap (λ s. times alpha s) (power-steps n) ∙ alpha-times (steps n) (steps-lt n)

pub alpha-255 : power alpha 255 ≡ 1
alpha-255 = power-steps 255 ∙ steps-255

pub alpha-add-255 : (n : ℕ) → power alpha (n + 255) ≡ power alpha n
alpha-add-255 n =
    power-add alpha n 255
    ∙ ap (λ s. times (power alpha n) s) alpha-255
    ∙ times-one (power alpha n) (power-lt alpha n)

pub alpha-mod-255 : (n : ℕ) → power alpha n ≡ power alpha (n % 255)
alpha-mod-255 n =
    let whole : n ≡ 255 * (n / 255) + n % 255 = omega arith in
    ap (λ k. power alpha k) whole
    ∙ power-add alpha (255 * (n / 255)) (n % 255)
    ∙ ap (λ s. times s (power alpha (n % 255)))
    (power-mul alpha 255 (n / 255) ∙ ap (λ s. power s (n / 255)) alpha-255 ∙ one-power (n / 255))
    ∙ one-times (power alpha (n % 255)) (power-lt alpha (n % 255))

pub alpha-ne-zero : (n : ℕ) → power alpha n ≢ 0
alpha-ne-zero n e =
    one_not_zero (power alpha (n * 255))
    (ap (λ k. power alpha k) (mul_comm n 255) ∙ power-mul alpha 255 n ∙ ap (λ s. power s n) alpha-255 ∙ one-power n)
    (power-mul alpha n 255 ∙ ap (λ s. power s 255) e ∙ zero-power 254)

pub alpha_injective : (i j : ℕ) → i < 255 → j < 255 → power alpha i ≡ power alpha j → i ≡ j
alpha_injective i j i_in j_in e =
    sym (LOGARITHMS-steps i i_in)
    ∙ ap (λ a. get_or LOGARITHMS a 0) (sym (power-steps i) ∙ e ∙ power-steps j)
    ∙ LOGARITHMS-steps j j_in

pub alpha_distinct : (i j : ℕ) → i < j → j < 255 → power alpha i ≢ power alpha j
alpha_distinct i j below within e =
    let same : i ≡ j = alpha_injective i j (omega arith) within e in
    omega arith

-- each element that is not 0 is a power of alpha
pub is_alpha_power : (a : ℕ) → IsElement a → a ≢ 0 → (i : ℕ) × (i < 255) × (power alpha i ≡ a)
is_alpha_power a a_in ne =
    let found = steps-LOGARITHMS a a_in ne in
    (get_or LOGARITHMS a 0, found.0, power-steps (get_or LOGARITHMS a 0) ∙ found.1)

-- ---- inverses

pub inverse-lt : (a : ℕ) → IsElement (inverse a)
unfolding inverse
inverse-lt a = power-lt a 254

pub times-inverse : (a : ℕ) → IsElement a → a ≢ 0 → times a (inverse a) ≡ 1
unfolding inverse
times-inverse a a_in ne =
    let known = is_alpha_power a a_in ne in
    let i = known.0 in
    sym (power-suc a 254)
    ∙ ap (λ s. power s 255) (sym known.2)
    ∙ sym (power-mul alpha i 255)
    ∙ ap (λ k. power alpha k) (mul_comm i 255)
    ∙ power-mul alpha 255 i
    ∙ ap (λ s. power s i) alpha-255
    ∙ one-power i

pub IsProduct-inverse : (a : ℕ) → IsElement a → a ≢ 0 → IsProduct a (inverse a) 1
IsProduct-inverse a a_in ne = subst (λ s. IsProduct a (inverse a) s) (times-inverse a a_in ne) (IsProduct-times a (inverse a))

pub inverse-ne-zero : (a : ℕ) → IsElement a → a ≢ 0 → inverse a ≢ 0
inverse-ne-zero a a_in ne e =
    one_not_zero (times a (inverse a)) (times-inverse a a_in ne) (ap (λ s. times a s) e ∙ times-zero a)

undone : (a b : ℕ) → IsElement a → a ≢ 0 → IsElement b → times (inverse a) (times a b) ≡ b
undone a b a_in ne b_in =
    sym (times_assoc (inverse a) a b)
    ∙ ap (λ s. times s b) (times_comm (inverse a) a ∙ times-inverse a a_in ne)
    ∙ one-times b b_in

pub times_cancel_left : (a b c : ℕ) → IsElement a → a ≢ 0 → IsElement b → IsElement c → times a b ≡ times a c → b ≡ c
times_cancel_left a b c a_in ne b_in c_in e =
    sym (undone a b a_in ne b_in) ∙ ap (λ s. times (inverse a) s) e ∙ undone a c a_in ne c_in

-- the inverse is the only one
pub inverse-single : (a b : ℕ) → IsElement a → IsElement b → times a b ≡ 1 → b ≡ inverse a
inverse-single a b a_in b_in e =
    elim (cases_eq a 0) as (λ _. b ≡ inverse a) [
      | inl is_zero ↦
          absurd (one_not_zero (times a b) e (ap (λ s. times s b) is_zero ∙ zero-times b))
      | inr ne ↦
          times_cancel_left a b (inverse a) a_in ne b_in (inverse-lt a) (e ∙ sym (times-inverse a a_in ne))
    ]

pub no_zero_divisors : (a b : ℕ) → IsElement a → IsElement b → times a b ≡ 0 → (a ≡ 0) ⊎ (b ≡ 0)
no_zero_divisors a b a_in b_in e =
    elim (cases_eq a 0) as (λ _. (a ≡ 0) ⊎ (b ≡ 0)) [
      | inl is_zero ↦ inl is_zero
      | inr ne ↦ inr (times_cancel_left a b 0 a_in ne b_in (omega arith) (e ∙ sym (times-zero a)))
    ]

pub times-ne-zero : (a b : ℕ) → IsElement a → IsElement b → a ≢ 0 → b ≢ 0 → times a b ≢ 0
times-ne-zero a b a_in b_in a_ne b_ne e =
    b_ne (times_cancel_left a b 0 a_in a_ne b_in (omega arith) (e ∙ sym (times-zero a)))
