-- Words and their numbers: a number below a power of the alphabet and a word of that length are one.
use Rattle.std.proofs.Common.{◌≡◌, ℕ, zero, suc, ◌+◌, ◌*◌, ◌-◌, ◌/◌, ◌%◌, ◌^◌, ◌<◌, ◌≤◌, List, [], ◌∷◌, ◌++◌, length, get_or, refl, sym, ap, ◌∙◌, inl, inr, arith, bit_and}
use Rattle.std.specs.Prelude.{◌↔◌}
use Rattle.std.proofs.Math.Nat.{pow-zero, pow-succ', one-le-pow, pow-le-pow_left, pow-le-pow_right, mul-add-div_right, mul-add-mod_self_right, mod-eq_of_lt, mod-lt, mod-one, mul-le-mul_right}
use Rattle.std.proofs.Math.Arith.{mod-mul}
use Rattle.std.proofs.lemmas.Nat.{div-mul-add, and_mask}
use Rattle.std.proofs.lemmas.List.{length_push}
use Rattle.std.proofs.lemmas.List.Elements.{All-head, All-tail}
use Rattle.std.proofs.lemmas.Bool.{cases_order}
use Rattle.symbol_base.specs.Block.{number_of, symbols_of}
use Rattle.symbol_base.specs.Word.{IsOver, IsSmallerAtFirst, IsBefore}

-- a power of a positive number is positive
pub power_positive : (a k : ℕ) → 0 < a → 0 < a ^ k
power_positive a k h = omega (arith, one-le-pow k a h)

-- a digit before a number below the weight is below the next weight
pub digit_before : (a weight digit rest : ℕ) → digit < a → rest < weight → digit * weight + rest < a * weight
digit_before a weight digit rest small below =
    let up : suc digit * weight ≤ a * weight = mul-le-mul_right weight (omega arith) in
    grind arith

-- the number of a word is below the power of its length
pub number_of-lt : (a : ℕ) (word : List ℕ) → IsOver a word → number_of a word < a ^ length word
number_of-lt a [] over = rw pow-zero (omega arith)
number_of-lt a (s ∷ rest) over =
    let first : s < a = All-head (λ (x : ℕ). x < a) s rest over in
    let behind = number_of-lt a rest (All-tail (λ (x : ℕ). x < a) s rest over) in
    rw pow-succ' (digit_before a (a ^ length rest) s (number_of a rest) first behind)

-- one more symbol
pub number_of-push : (a : ℕ) (word : List ℕ) (s : ℕ) → number_of a (word ++ s ∷ []) ≡ number_of a word * a + s
number_of-push a [] s = rw pow-zero (omega arith)
number_of-push a (t ∷ rest) s =
    let behind = number_of-push a rest s in
    let more : a ^ length (rest ++ s ∷ []) ≡ a * a ^ length rest = ap (λ n. a ^ n) (length_push rest s ∙ omega arith) ∙ pow-succ' a (length rest) in
    rw (more, behind) (omega arith)

-- a block of q symbols has q symbols
pub length-symbols_of : (a q value : ℕ) → length (symbols_of a q value) ≡ q
length-symbols_of a zero value = refl
length-symbols_of a (suc q) value = ap suc (length-symbols_of a q value)

-- the symbol at a place is a digit of the value
pub get_or-symbols_of : (a q value i d : ℕ) → i < q → get_or (symbols_of a q value) i d ≡ value / a ^ (q - 1 - i) % a
get_or-symbols_of a zero value i d h = absurd (omega arith)
get_or-symbols_of a (suc q) value zero d h =
    let e : q ≡ suc q - 1 - 0 = omega arith in ap (λ k. value / a ^ k % a) e
get_or-symbols_of a (suc q) value (suc i) d h =
    let e : q - 1 - i ≡ suc q - 1 - suc i = omega arith in
    get_or-symbols_of a q value i d (omega arith) ∙ ap (λ k. value / a ^ k % a) e

-- the symbols of a block are over the alphabet
pub IsOver-symbols_of : (a q value : ℕ) → 0 < a → IsOver a (symbols_of a q value)
IsOver-symbols_of a q value h k d within =
    let inside : k < q = omega (arith, length-symbols_of a q value) in
    rw (get_or-symbols_of a q value k d inside) (mod-lt (value / a ^ (q - 1 - k)) h)

-- the number of the last q symbols of a value is what is left of it
pub number_of-symbols_of : (a q value : ℕ) → 0 < a → number_of a (symbols_of a q value) ≡ value % a ^ q
number_of-symbols_of a zero value h = rw pow-zero (sym (mod-one value))
number_of-symbols_of a (suc q) value h =
    let behind = number_of-symbols_of a q value h in
    let count = length-symbols_of a q value in
    rw (count, behind, pow-succ') (sym (mod-mul value h (power_positive a q h)))

-- what stands before the last q symbols changes none of them
pub symbols_of-add : (a q t value : ℕ) → 0 < a → symbols_of a q (t * a ^ q + value) ≡ symbols_of a q value
symbols_of-add a zero t value h = refl
symbols_of-add a (suc q) t value h =
    let regroup : t * a ^ suc q + value ≡ t * a * a ^ q + value = rw pow-succ' (omega arith) in
    let first : (t * a ^ suc q + value) / a ^ q % a ≡ value / a ^ q % a =
    ap (λ n. n / a ^ q % a) regroup
    ∙ ap (λ n. n % a) (mul-add-div_right (power_positive a q h) (t * a) value)
    ∙ mul-add-mod_self_right t a (value / a ^ q) in
    let rest : symbols_of a q (t * a ^ suc q + value) ≡ symbols_of a q value =
    ap (symbols_of a q) regroup ∙ symbols_of-add a q (t * a) value h in
    cc

-- the symbols of a word's number are the word
pub symbols_of-number_of : (a : ℕ) (word : List ℕ) → 0 < a → IsOver a word → symbols_of a (length word) (number_of a word) ≡ word
symbols_of-number_of a [] h over = refl
symbols_of-number_of a (s ∷ word) h over =
    let small : s < a = All-head (λ (x : ℕ). x < a) s word over in
    let tail = All-tail (λ (x : ℕ). x < a) s word over in
    let weight = a ^ length word in
    let below : number_of a word < weight = number_of-lt a word tail in
    let first : (s * weight + number_of a word) / weight % a ≡ s =
    ap (λ n. n % a) (div-mul-add s weight (number_of a word) below) ∙ mod-eq_of_lt small in
    let rest : symbols_of a (length word) (s * weight + number_of a word) ≡ word =
    symbols_of-add a (length word) s (number_of a word) h ∙ symbols_of-number_of a word h tail in
    cc

-- a word that is smaller at the first difference has the smaller number
number_of-smaller : (a : ℕ) (u v : List ℕ) → IsOver a u → IsOver a v → length u ≡ length v
    → IsSmallerAtFirst u v → number_of a u < number_of a v
number_of-smaller a [] v over_u over_v same less = absurd less
number_of-smaller a (s ∷ u) [] over_u over_v same less = absurd less
number_of-smaller a (s ∷ u) (t ∷ v) over_u over_v same less =
    let lengths : length u ≡ length v = omega arith in
    let tail_u = All-tail (λ (x : ℕ). x < a) s u over_u in
    let tail_v = All-tail (λ (x : ℕ). x < a) t v over_v in
    let below : number_of a u < a ^ length v = rw (← lengths) (number_of-lt a u tail_u) in
    rw lengths (elim less [
      | inl first ↦ (let up : suc s * a ^ length v ≤ t * a ^ length v = mul-le-mul_right (a ^ length v) (omega arith) in grind arith)
      | inr later ↦ (let rest = number_of-smaller a u v tail_u tail_v lengths later.1 in rw later.0 (omega arith))
    ])

-- of two different numbers of words of one length the smaller belongs to the word that is smaller at the first difference
smaller-number_of : (a : ℕ) (u v : List ℕ) → IsOver a u → IsOver a v → length u ≡ length v
    → number_of a u < number_of a v → IsSmallerAtFirst u v
smaller-number_of a [] [] over_u over_v same less = absurd (omega arith)
smaller-number_of a [] (t ∷ v) over_u over_v same less = absurd (omega arith)
smaller-number_of a (s ∷ u) [] over_u over_v same less = absurd (omega arith)
smaller-number_of a (s ∷ u) (t ∷ v) over_u over_v same less =
    let lengths : length u ≡ length v = omega arith in
    let tail_u = All-tail (λ (x : ℕ). x < a) s u over_u in
    let tail_v = All-tail (λ (x : ℕ). x < a) t v over_v in
    let below : number_of a v < a ^ length v = number_of-lt a v tail_v in
    let told : s * a ^ length v + number_of a u < t * a ^ length v + number_of a v = rw lengths at less in
    elim (cases_order s t) [
      | inl equal ↦ inr (equal, smaller-number_of a u v tail_u tail_v lengths (let h : s * a ^ length v ≡ t * a ^ length v = ap (λ n. n * a ^ length v) equal in omega arith))
      | inr apart ↦ elim apart [
        | inl first ↦ inl first
        | inr above ↦ absurd (let up : suc t * a ^ length v ≤ s * a ^ length v = mul-le-mul_right (a ^ length v) (omega arith) in grind arith)
      ]
    ]

-- numbers of words of one length stand in the order of the words
pub number_of-order : (a : ℕ) (u v : List ℕ) → IsOver a u → IsOver a v → length u ≡ length v
    → (number_of a u < number_of a v) ↔ IsBefore u v
number_of-order a u v over_u over_v same = (
  (λ less. inr (same, smaller-number_of a u v over_u over_v same less)),
  (λ before. elim before [ inl shorter ↦ absurd (omega arith) | inr less ↦ number_of-smaller a u v over_u over_v same less.1 ]),
)

-- blocks of at most 20 symbols of at most four fit 40 bits
pub block_fits : (a k : ℕ) → 0 < a → a ≤ 4 → k ≤ 20 → a ^ k ≤ 2 ^ 40
block_fits a k h four twenty =
    let base : a ^ k ≤ 4 ^ k = pow-le-pow_left four k in
    let power : 4 ^ k ≤ 4 ^ 20 = pow-le-pow_right (omega arith) twenty in
    omega arith

-- one more symbol below the alphabet fits
pub next_fits : (a k value : ℕ) → 0 < a → a ≤ 4 → k < 20 → value < a ^ k → value * a + a ≤ 2 ^ 40
next_fits a k value h four twenty below =
    let up : suc value * a ≤ a ^ k * a = mul-le-mul_right a (omega arith) in
    let power : a * a ^ k ≤ 2 ^ 40 = rw (← pow-succ' a k) (block_fits a (suc k) h four (omega arith)) in
    omega arith

-- one more symbol below the alphabet is below the next power
pub next_below : (a k value s : ℕ) → s < a → value < a ^ k → value * a + s < a ^ (k + 1)
next_below a k value s small below =
    let up : suc value * a ≤ a ^ k * a = mul-le-mul_right a (omega arith) in
    let power : a ^ (k + 1) ≡ a * a ^ k = ap (λ n. a ^ n) (omega arith) ∙ pow-succ' a k in
    rw power (omega arith)

-- powers of 4 are even powers of 2
pub power_of_four : (k : ℕ) → 2 ^ (2 * k) ≡ 4 ^ k
power_of_four zero = refl
power_of_four (suc k) =
    let e : 2 * suc k ≡ suc (suc (2 * k)) = omega arith in
    let behind = power_of_four k in
    rw (e, pow-succ' 2 (suc (2 * k)), pow-succ' 2 (2 * k), pow-succ' 4 k, behind) (omega arith)

-- the symbol at a place by division
pub symbol_by_division : (a q value at : ℕ) → at < q → value / a ^ (q - 1 - at) % a ≡ get_or (symbols_of a q value) at 0
symbol_by_division a q value at h = sym (get_or-symbols_of a q value at 0 h)

-- the symbol at a place of a block over two symbols
pub symbol_of_two : (a q value at : ℕ) → a ≡ 2 → at < q → bit_and (value / 2 ^ (q - 1 - at)) 1 ≡ get_or (symbols_of a q value) at 0
symbol_of_two a q value at two h =
    rw two (and_mask (value / 2 ^ (q - 1 - at)) 1 ∙ symbol_by_division 2 q value at h)

-- the symbol at a place of a block over four symbols
pub symbol_of_four : (a q value at : ℕ) → a ≡ 4 → at < q → bit_and (value / 2 ^ (2 * (q - 1 - at))) 3 ≡ get_or (symbols_of a q value) at 0
symbol_of_four a q value at four h =
    rw four (and_mask (value / 2 ^ (2 * (q - 1 - at))) 2 ∙ ap (λ n. value / n % 4) (power_of_four (q - 1 - at)) ∙ symbol_by_division 4 q value at h)

-- a power of the alphabet before the first symbol of a block fits
pub weight_fits : (a k : ℕ) → 0 < a → a ≤ 4 → k < 20 → a ^ k < 2 ^ 64
weight_fits a k h four twenty = let b = block_fits a k h four (omega arith) in omega arith
