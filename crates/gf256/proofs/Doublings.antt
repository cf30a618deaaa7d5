-- The product by doublings and sums.
use Rattle.std.proofs.Common.{◌≡◌, ◌∙◌, ℕ, suc, ◌+◌, ◌*◌, ◌/◌, ◌%◌, ◌^◌, ◌<◌, ◌≤◌, refl, sym, ap, arith, add-one}
use Rattle.std.proofs.Math.Nat.{pow-suc, mul-le-mul_left}
use Rattle.std.specs.Int.Bits.{bit_xor}
use Rattle.std.proofs.lemmas.Nat.{xor_mod}
use Rattle.gf256.specs.Field.{IsElement, plus, modulus, times, alpha}
use Rattle.gf256.proofs.Polynomials.{plus_assoc, plus_comm, plus-zero, split}
use Rattle.gf256.proofs.Remainders.{shift_step-low, shift_step-high, alpha-times}
use Rattle.gf256.proofs.FieldLaws.{times_left_comm, times_assoc, times-lt, plus-times}

pub bit_xor-plus : (a b : ℕ) → bit_xor a b ≡ plus a b
unfolding plus
bit_xor-plus a b = refl

-- a number from its half
halved : (a : ℕ) → IsElement a → plus (a % 2) (times alpha (a / 2)) ≡ a
halved a a_in =
    ap (plus (a % 2)) (alpha-times (a / 2) (omega arith) ∙ shift_step-low (a / 2) (omega arith))
    ∙ plus_comm (a % 2) (2 * (a / 2)) ∙ sym (split a)

-- what is left to multiply after a further doubling
pub doubled_more : (sum rest doubled : ℕ) → IsElement rest
    → plus (plus sum (times (rest % 2) doubled)) (times (rest / 2) (times alpha doubled)) ≡ plus sum (times rest doubled)
doubled_more sum rest doubled rest_in =
    plus_assoc sum (times (rest % 2) doubled) (times (rest / 2) (times alpha doubled))
    ∙ ap (plus sum)
    (ap (plus (times (rest % 2) doubled)) (times_left_comm (rest / 2) alpha doubled ∙ sym (times_assoc alpha (rest / 2) doubled))
    ∙ sym (plus-times (rest % 2) (times alpha (rest / 2)) doubled)
    ∙ ap (λ a. times a doubled) (halved rest rest_in))

-- the halves of a number
pub halved_more : (k rest most : ℕ) → 2 ^ k * rest ≤ most → 2 ^ (k + 1) * (rest / 2) ≤ most
halved_more k rest most within =
    let p : ℕ = 2 ^ k in
    let next : 2 ^ (k + 1) ≡ p * 2 = ap (λ n. 2 ^ n) (add-one k) ∙ pow-suc 2 k in
    let half : rest / 2 * 2 ≤ rest = omega arith in
    let fits : p * (rest / 2 * 2) ≤ p * rest = mul-le-mul_left p half in
    let same : p * 2 * (rest / 2) ≡ p * (rest / 2 * 2) = omega arith in
    let whole : 2 ^ (k + 1) * (rest / 2) ≡ p * (rest / 2 * 2) = ap (λ q. q * (rest / 2)) next ∙ same in
    omega (arith, whole, fits, within)

pub halved_all : (k rest : ℕ) → k ≡ 8 → 2 ^ k * rest ≤ 255 → rest ≡ 0
halved_all k rest end within =
    let whole : 2 ^ k * rest ≡ 256 * rest = ap (λ n. 2 ^ n * rest) end in
    omega (arith, whole, within)

-- ---- one doubling

pub times_x_low : (a : ℕ) → a < 128 → bit_xor ((a * 2 ^ 1) % 2 ^ 8) 0 ≡ times alpha a
times_x_low a low =
    bit_xor-plus ((a * 2 ^ 1) % 2 ^ 8) 0 ∙ plus-zero ((a * 2 ^ 1) % 2 ^ 8)
    ∙ (let e : (a * 2 ^ 1) % 2 ^ 8 ≡ 2 * a = omega arith in e)
    ∙ sym (alpha-times a (omega arith) ∙ shift_step-low a low)

-- the bits below the leading one
pub times_x_high : (a : ℕ) → 128 ≤ a → a < 256 → bit_xor ((a * 2 ^ 1) % 2 ^ 8) 29 ≡ times alpha a
times_x_high a high a_in =
    let whole : times alpha a ≡ bit_xor (2 * a) 285 = alpha-times a a_in ∙ shift_step-high a high ∙ sym (bit_xor-plus (2 * a) modulus) in
    let small : times alpha a < 256 = times-lt alpha a in
    let same : (a * 2 ^ 1) % 2 ^ 8 ≡ (2 * a) % 2 ^ 8 = ap (λ n. n % 2 ^ 8) (let e : a * 2 ^ 1 ≡ 2 * a = omega arith in e) in
    ap (λ n. bit_xor n 29) same ∙ sym (xor_mod (2 * a) 285 8) ∙ ap (λ n. n % 256) (sym whole) ∙ omega (arith, small)
