-- The two tables hold the powers of alpha and their logarithms: each rule is computed once.
use Rattle.std.proofs.Common.{◌≡◌, ◌≢◌, ℕ, zero, suc, ◌+◌, ◌-◌, ◌<◌, ◌≤◌, Bool, true, ◌&&◌, eqb, ltb, List, [], ◌∷◌, length, get_or, take, refl, sym, ap, ◌∙◌, arith}
use Rattle.std.proofs.lemmas.Bool.{agree_below, agree_below_at, and_parts, eqb-true, ltb-true}
use Rattle.std.proofs.lemmas.List.{get_or-take}
use Rattle.gf256.specs.Field.{IsElement, plus, shift_step}
use Rattle.gf256.specs.declared.tables.TheConstants.{LOGARITHMS, POWERS}
use Rattle.gf256.proofs.Remainders.{shift_step-lt}

-- 1 after n shift steps
unfoldable pub steps : ℕ → ℕ
steps zero = 1
steps (suc n) = shift_step (steps n)

pub steps-lt : (n : ℕ) → IsElement (steps n)
unfolding steps
steps-lt zero = omega arith
steps-lt (suc n) = shift_step-lt (steps n) (steps-lt n)

-- whether each entry is a shift step on from the one before it, x at first
abbrev are_steps : ℕ → List ℕ → Bool
are_steps x [] = true
are_steps x (y ∷ ys) = eqb x y && are_steps (shift_step x) ys

get_or-are_steps : (n : ℕ) (xs : List ℕ) (i : ℕ) → are_steps (steps n) xs ≡ true → i < length xs → get_or xs i 0 ≡ steps (n + i)
unfolding steps
get_or-are_steps n [] i ok within = absurd (omega arith)
get_or-are_steps n (x ∷ xs) zero ok within =
    let same : steps n ≡ x = eqb-true (steps n) x (and_parts (eqb (steps n) x) (are_steps (shift_step (steps n)) xs) ok).0 in
    sym same ∙ ap steps (omega arith)
get_or-are_steps n (x ∷ xs) (suc i) ok within =
    let rest = (and_parts (eqb (steps n) x) (are_steps (shift_step (steps n)) xs) ok).1 in
    get_or-are_steps (suc n) xs i rest (omega arith) ∙ ap steps (omega arith)

front_are_steps : are_steps 1 (take 510 POWERS) ≡ true
unfolding shift_step plus
front_are_steps = refl

pub POWERS-steps : (i : ℕ) → i < 510 → get_or POWERS i 0 ≡ steps i
unfolding steps
POWERS-steps i within =
    sym (get_or-take 510 POWERS i 0 within)
    ∙ get_or-are_steps 0 (take 510 POWERS) i front_are_steps within
    ∙ ap steps (omega arith)

rest_is_zero : agree_below (λ i. eqb (get_or POWERS (510 + i) 0) 0) (λ _. true) 511 ≡ true
rest_is_zero = refl

pub POWERS-past : (i : ℕ) → 510 ≤ i → i < 1021 → get_or POWERS i 0 ≡ 0
POWERS-past i past within =
    let zero_there = agree_below_at (λ k. eqb (get_or POWERS (510 + k) 0) 0) (λ _. true) 511 (i - 510) rest_is_zero (omega arith) in
    let place : i ≡ 510 + (i - 510) = omega arith in
    ap (λ k. get_or POWERS k 0) place ∙ eqb-true (get_or POWERS (510 + (i - 510)) 0) 0 zero_there

pub LOGARITHMS-zero : get_or LOGARITHMS 0 0 ≡ 510
LOGARITHMS-zero = refl

logarithms_agree : agree_below (λ a. eqb (get_or POWERS (get_or LOGARITHMS (suc a) 0) 0) (suc a) && ltb (get_or LOGARITHMS (suc a) 0) 255) (λ _. true) 255 ≡ true
logarithms_agree = refl

-- each element but 0 is alpha to the power of its logarithm
pub steps-LOGARITHMS : (a : ℕ) → IsElement a → a ≢ 0 → (get_or LOGARITHMS a 0 < 255) × (steps (get_or LOGARITHMS a 0) ≡ a)
steps-LOGARITHMS zero a_in ne = absurd (ne refl)
steps-LOGARITHMS (suc a) a_in ne =
    let l = get_or LOGARITHMS (suc a) 0 in
    let both = and_parts (eqb (get_or POWERS l 0) (suc a)) (ltb l 255)
    (agree_below_at (λ k. eqb (get_or POWERS (get_or LOGARITHMS (suc k) 0) 0) (suc k) && ltb (get_or LOGARITHMS (suc k) 0) 255) (λ _. true) 255 a logarithms_agree (omega arith)) in
    let small : l < 255 = ltb-true l 255 both.1 in
    (small, sym (POWERS-steps l (omega arith)) ∙ eqb-true (get_or POWERS l 0) (suc a) both.0)

powers_agree : agree_below (λ i. eqb (get_or LOGARITHMS (get_or POWERS i 0) 0) i) (λ _. true) 255 ≡ true
powers_agree = refl

-- .. and the logarithm of a power below 255 is its exponent
pub LOGARITHMS-steps : (i : ℕ) → i < 255 → get_or LOGARITHMS (steps i) 0 ≡ i
LOGARITHMS-steps i within =
    ap (λ a. get_or LOGARITHMS a 0) (sym (POWERS-steps i (omega arith)))
    ∙ eqb-true (get_or LOGARITHMS (get_or POWERS i 0) 0) i
    (agree_below_at (λ k. eqb (get_or LOGARITHMS (get_or POWERS k 0) 0) k) (λ _. true) 255 i powers_agree within)

pub steps-255 : steps 255 ≡ 1
unfolding steps shift_step plus
steps-255 = refl
