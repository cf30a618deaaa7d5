-- The remainder on division by the modulus: there is one, it is single, and the product of the field is one.
use Rattle.std.proofs.Common.{◌≡◌, ◌≢◌, ℕ, zero, suc, ◌+◌, ◌-◌, ◌*◌, ◌/◌, ◌%◌, ◌^◌, ◌<◌, ◌≤◌, inl, inr, sym, ap, ap₂, ◌∙◌, subst, arith}
use Rattle.std.proofs.lemmas.Bool.{cases_lt}
use Rattle.std.proofs.lemmas.Bool.Decides.{nat_tests}
use Rattle.std.specs.Int.Bits.{bit_xor}
use Rattle.std.proofs.lemmas.Nat.{xor_lt, xor_block}
use Rattle.std.proofs.Math.Arith.{half_le}
use Rattle.std.proofs.Math.Nat.{le_refl}
use Rattle.gf256.specs.Field.{IsElement, plus, carryless_product, modulus, shift_step, remainder_from, times, alpha}
use Rattle.gf256.proofs.Polynomials.{plus_comm, plus_assoc, zero-plus, plus_self, plus_below, plus_self_left, plus_exchange, same_from_plus, plus-double, split, zero-product, double-product, one-product, plus-product, product_comm, product_assoc, product_high}

-- r is the remainder of the polynomial p
pub record IsRemainder (p r : ℕ) : Type 0 where
  pub element : IsElement r
  pub quotient : ℕ
  pub division : p ≡ plus (carryless_product quotient modulus) r

-- ---- a single one

below_modulus : (q : ℕ) → carryless_product q modulus < 256 → q ≡ 0
below_modulus q low =
    elim (cases_lt 0 q) as (λ _. q ≡ 0) [
      | inl positive ↦
          let ne : q ≢ 0 = omega arith in
          let high : 256 ≤ carryless_product modulus q = product_high modulus q (omega arith) (omega arith) ne in
          let same : carryless_product modulus q ≡ carryless_product q modulus = product_comm modulus q in
          absurd (omega arith)
      | inr none ↦ omega arith
    ]

-- two remainders of one polynomial differ by a multiple of the modulus that has a degree below 8
IsRemainder-apart : (p r s : ℕ) (h : IsRemainder p r) (k : IsRemainder p s) → carryless_product (plus h.quotient k.quotient) modulus ≡ plus r s
IsRemainder-apart p r s h k =
    let a = carryless_product h.quotient modulus in
    let b = carryless_product k.quotient modulus in
    let sums : plus a r ≡ plus b s = sym h.division ∙ k.division in
    let none : plus (plus a b) (plus r s) ≡ 0 =
    plus_exchange a b r s ∙ ap (λ x. plus x (plus b s)) sums ∙ plus_self (plus b s) in
    plus-product h.quotient k.quotient modulus ∙ same_from_plus (plus a b) (plus r s) none

pub IsRemainder-single : (p r s : ℕ) → IsRemainder p r → IsRemainder p s → r ≡ s
IsRemainder-single p r s h k =
    let apart = IsRemainder-apart p r s h k in
    let low : plus r s < 256 = plus_below 8 r s h.element k.element in
    let same_quotient : plus h.quotient k.quotient ≡ 0 = below_modulus (plus h.quotient k.quotient) (omega arith) in
    same_from_plus r s (sym apart ∙ ap (λ q. carryless_product q modulus) same_quotient ∙ zero-product modulus)

-- ---- there is one

pub IsRemainder-element : (r : ℕ) → IsElement r → IsRemainder r r
IsRemainder-element r r_in =
    record { element = r_in; quotient = 0; division = sym (ap (λ s. plus s r) (zero-product modulus) ∙ zero-plus r) }

pub IsRemainder-plus : (p q r s : ℕ) → IsRemainder p r → IsRemainder q s → IsRemainder (plus p q) (plus r s)
IsRemainder-plus p q r s h k = record {
  element = plus_below 8 r s h.element k.element;
  quotient = plus h.quotient k.quotient;
  division =
      ap₂ (λ x y. plus x y) h.division k.division
      ∙ plus_exchange (carryless_product h.quotient modulus) r (carryless_product k.quotient modulus) s
      ∙ ap (λ x. plus x (plus r s)) (sym (plus-product h.quotient k.quotient modulus));
}

-- what differs from p by a multiple of the modulus has the same remainder
pub IsRemainder-more : (p q r : ℕ) → IsRemainder p r → IsRemainder (plus (carryless_product q modulus) p) r
IsRemainder-more p q r h = record {
  element = h.element;
  quotient = plus q h.quotient;
  division =
      ap (λ s. plus (carryless_product q modulus) s) h.division
      ∙ sym (plus_assoc (carryless_product q modulus) (carryless_product h.quotient modulus) r)
      ∙ ap (λ s. plus s r) (sym (plus-product q h.quotient modulus));
}

-- the modulus taken away from a polynomial of degree 8
plus-modulus-lt : (r : ℕ) → 128 ≤ r → r < 256 → plus (2 * r) modulus < 256
unfolding plus
plus-modulus-lt r high low =
    let rest : 2 * r - 256 < 256 = omega arith in
    let whole : 2 * r ≡ 1 * 2 ^ 8 + (2 * r - 256) = omega arith in
    let block = xor_block 8 1 1 (2 * r - 256) 29 rest (omega arith) in
    let small : bit_xor (2 * r - 256) 29 < 2 ^ 8 = xor_lt 8 (2 * r - 256) 29 rest (omega arith) in
    subst (λ s. bit_xor s modulus < 256) (sym whole) (omega arith)

pub shift_step-low : (r : ℕ) → r < 128 → shift_step r ≡ 2 * r
unfolding shift_step
shift_step-low r low = grind (arith, nat_tests)

pub shift_step-high : (r : ℕ) → 128 ≤ r → shift_step r ≡ plus (2 * r) modulus
unfolding shift_step
shift_step-high r high = grind (arith, nat_tests)

pub shift_step-IsRemainder : (r : ℕ) → IsElement r → IsRemainder (2 * r) (shift_step r)
shift_step-IsRemainder r r_in =
    elim (cases_lt r 128) as (λ _. IsRemainder (2 * r) (shift_step r)) [
      | inl low ↦ subst (λ s. IsRemainder (2 * r) s) (sym (shift_step-low r low)) (IsRemainder-element (2 * r) (omega arith))
      | inr high ↦
          let taken : ℕ = plus (2 * r) modulus in
          subst (λ s. IsRemainder (2 * r) s) (sym (shift_step-high r high))
          (subst (λ s. IsRemainder s taken)
          (ap (λ s. plus s taken) (one-product modulus)
          ∙ ap (λ s. plus modulus s) (plus_comm (2 * r) modulus)
          ∙ plus_self_left modulus (2 * r))
          (IsRemainder-more taken 1 taken (IsRemainder-element taken (plus-modulus-lt r high r_in))))
    ]

double-IsRemainder : (p r : ℕ) → IsRemainder p r → IsRemainder (2 * p) (shift_step r)
double-IsRemainder p r h =
    subst (λ s. IsRemainder s (shift_step r))
    (ap (λ s. plus s (2 * r)) (double-product h.quotient modulus)
    ∙ plus-double (carryless_product h.quotient modulus) r
    ∙ ap (λ s. 2 * s) (sym h.division))
    (IsRemainder-more (2 * r) (2 * h.quotient) (shift_step r) (shift_step-IsRemainder r h.element))

pub remainder_from-IsRemainder : (n p : ℕ) → p ≤ n → IsRemainder p (remainder_from n p)
unfolding remainder_from
remainder_from-IsRemainder zero zero h = IsRemainder-element 0 (omega arith)
remainder_from-IsRemainder zero (suc p) h = absurd (omega arith)
remainder_from-IsRemainder (suc n) p h =
    subst (λ s. IsRemainder s (plus (shift_step (remainder_from n (p / 2))) (p % 2)))
    (sym (split p))
    (IsRemainder-plus (2 * (p / 2)) (p % 2) (shift_step (remainder_from n (p / 2))) (p % 2)
    (double-IsRemainder (p / 2) (remainder_from n (p / 2)) (remainder_from-IsRemainder n (p / 2) (half_le h)))
    (IsRemainder-element (p % 2) (omega arith)))

-- ---- the product of the field

pub times-IsRemainder : (a b : ℕ) → IsRemainder (carryless_product a b) (times a b)
unfolding times
times-IsRemainder a b = remainder_from-IsRemainder (carryless_product a b) (carryless_product a b) (le_refl (carryless_product a b))

-- whatever is a remainder of the polynomial product is the product of the field
pub times_from_remainder : (a b c : ℕ) → IsRemainder (carryless_product a b) c → times a b ≡ c
times_from_remainder a b c h = IsRemainder-single (carryless_product a b) (times a b) c (times-IsRemainder a b) h

-- the remainder of a product of three
pub times-times-IsRemainder : (a b c : ℕ) → IsRemainder (carryless_product (carryless_product a b) c) (times (times a b) c)
times-times-IsRemainder a b c =
    let h = times-IsRemainder a b in
    let k = times-IsRemainder (times a b) c in
    subst (λ s. IsRemainder s (times (times a b) c))
    (ap (λ s. plus s (carryless_product (times a b) c)) (sym (shift_quotient h.quotient))
    ∙ sym (plus-product (carryless_product h.quotient modulus) (times a b) c)
    ∙ ap (λ s. carryless_product s c) (sym h.division))
    (IsRemainder-more (carryless_product (times a b) c) (carryless_product h.quotient c) (times (times a b) c) k)
  where
    shift_quotient : (q : ℕ) → carryless_product (carryless_product q modulus) c ≡ carryless_product (carryless_product q c) modulus
    shift_quotient q =
        product_assoc q modulus c ∙ ap (λ s. carryless_product q s) (product_comm modulus c) ∙ sym (product_assoc q c modulus)

-- ---- the element x

pub shift_step-lt : (r : ℕ) → IsElement r → IsElement (shift_step r)
shift_step-lt r r_in = (shift_step-IsRemainder r r_in).element

pub alpha-times : (r : ℕ) → IsElement r → times alpha r ≡ shift_step r
alpha-times r r_in =
    times_from_remainder alpha r (shift_step r)
    (subst (λ s. IsRemainder s (shift_step r))
    (sym (double-product 1 r ∙ ap (λ s. 2 * s) (one-product r)))
    (shift_step-IsRemainder r r_in))
