-- What the two tables give is the product, the power and the inverse.
use Rattle.std.proofs.Common.{◌≡◌, ◌≢◌, ℕ, ◌+◌, ◌-◌, ◌*◌, ◌%◌, ◌<◌, ◌≤◌, inl, inr, get_or, sym, ap, ap₂, ◌∙◌, arith}
use Rattle.std.proofs.lemmas.Bool.{cases_eq}
use Rattle.gf256.specs.Field.{IsElement, times, power, alpha, inverse}
use Rattle.gf256.specs.declared.tables.TheConstants.{LOGARITHMS, POWERS}
use Rattle.gf256.proofs.FieldLaws.{zero-times, times-zero, power-lt, power-add, power-mul, power-steps, alpha-255, alpha-mod-255, inverse-single}
use Rattle.gf256.proofs.PowerTables.{POWERS-steps, POWERS-past, LOGARITHMS-zero, steps-LOGARITHMS}

POWERS-power : (i : ℕ) → i < 510 → get_or POWERS i 0 ≡ power alpha i
POWERS-power i within = POWERS-steps i within ∙ sym (power-steps i)

power-LOGARITHMS : (a : ℕ) → IsElement a → a ≢ 0 → power alpha (get_or LOGARITHMS a 0) ≡ a
power-LOGARITHMS a a_in ne = power-steps (get_or LOGARITHMS a 0) ∙ (steps-LOGARITHMS a a_in ne).1

pub LOGARITHMS-lt : (a : ℕ) → IsElement a → a ≢ 0 → get_or LOGARITHMS a 0 < 255
LOGARITHMS-lt a a_in ne = (steps-LOGARITHMS a a_in ne).0

LOGARITHMS-at_zero : (a : ℕ) → a ≡ 0 → get_or LOGARITHMS a 0 ≡ 510
LOGARITHMS-at_zero a e = ap (λ k. get_or LOGARITHMS k 0) e ∙ LOGARITHMS-zero

pub LOGARITHMS-le : (a : ℕ) → IsElement a → get_or LOGARITHMS a 0 ≤ 510
LOGARITHMS-le a a_in =
    elim (cases_eq a 0) as (λ _. get_or LOGARITHMS a 0 ≤ 510) [
      | inl is_zero ↦ let at_zero = LOGARITHMS-at_zero a is_zero in omega arith
      | inr ne ↦ let small = LOGARITHMS-lt a a_in ne in omega arith
    ]

pub times_by_logarithms : (a b : ℕ) → IsElement a → IsElement b → get_or POWERS (get_or LOGARITHMS a 0 + get_or LOGARITHMS b 0) 0 ≡ times a b
times_by_logarithms a b a_in b_in =
    let i = get_or LOGARITHMS a 0 in
    let j = get_or LOGARITHMS b 0 in
    let i_in : i ≤ 510 = LOGARITHMS-le a a_in in
    let j_in : j ≤ 510 = LOGARITHMS-le b b_in in
    elim (cases_eq a 0) as (λ _. get_or POWERS (i + j) 0 ≡ times a b) [
      | inl a_zero ↦
          let at_zero : i ≡ 510 = LOGARITHMS-at_zero a a_zero in
          POWERS-past (i + j) (omega arith) (omega arith) ∙ sym (ap (λ s. times s b) a_zero ∙ zero-times b)
      | inr a_ne ↦ elim (cases_eq b 0) as (λ _. get_or POWERS (i + j) 0 ≡ times a b) [
        | inl b_zero ↦
            let at_zero : j ≡ 510 = LOGARITHMS-at_zero b b_zero in
            POWERS-past (i + j) (omega arith) (omega arith) ∙ sym (ap (λ s. times a s) b_zero ∙ times-zero a)
        | inr b_ne ↦
            let i_small : i < 255 = LOGARITHMS-lt a a_in a_ne in
            let j_small : j < 255 = LOGARITHMS-lt b b_in b_ne in
            POWERS-power (i + j) (omega arith)
            ∙ power-add alpha i j
            ∙ ap₂ (λ s t. times s t) (power-LOGARITHMS a a_in a_ne) (power-LOGARITHMS b b_in b_ne)
      ]
    ]

pub power_by_logarithm : (a e : ℕ) → IsElement a → a ≢ 0 → get_or POWERS (get_or LOGARITHMS a 0 * e % 255) 0 ≡ power a e
power_by_logarithm a e a_in ne =
    let i = get_or LOGARITHMS a 0 in
    POWERS-power (i * e % 255) (omega arith)
    ∙ sym (alpha-mod-255 (i * e))
    ∙ power-mul alpha i e
    ∙ ap (λ s. power s e) (power-LOGARITHMS a a_in ne)

pub inverse_by_logarithm : (a : ℕ) → IsElement a → a ≢ 0 → get_or POWERS (255 - get_or LOGARITHMS a 0) 0 ≡ inverse a
inverse_by_logarithm a a_in ne =
    let i = get_or LOGARITHMS a 0 in
    let small : i < 255 = LOGARITHMS-lt a a_in ne in
    let j = 255 - i in
    let whole : i + j ≡ 255 = omega arith in
    let named = POWERS-power j (omega arith) in
    named
    ∙ inverse-single a (power alpha j) a_in (power-lt alpha j)
    (ap (λ s. times s (power alpha j)) (sym (power-LOGARITHMS a a_in ne))
    ∙ sym (power-add alpha i j)
    ∙ ap (λ k. power alpha k) whole
    ∙ alpha-255)
