-- The remainder by the generator polynomial makes a word of the code.
use Rattle.std.proofs.Common.{◌≡◌, ℕ, zero, suc, ◌+◌, ◌*◌, ◌<◌, ◌≤◌, List, [], ◌∷◌, ◌++◌, length, take, drop, set, refl, sym, ◌∙◌, ap, arith, get_or, ◌⊎◌, ⊎_elim, length-append, length-take-le, length-drop, length-set}
use Rattle.std.specs.Prelude.{All, bit_xor}
use Rattle.std.proofs.lemmas.List.{take_more, take_more_set, get_or_append_left, get_or_at, get_or-drop, get_or-take, length-map}
use Rattle.std.proofs.lemmas.Bool.{cases_lt}
use Rattle.gf256.specs.Field.{IsElement, plus, times, power, alpha}
use Rattle.gf256.proofs.FieldLaws.{plus_comm, plus_assoc, plus-zero, zero-plus, plus_self, times-zero, zero-times, one-times, times-plus, plus-times, times_comm, times_assoc, power-add, power-lt}
use Rattle.gf256.specs.Linear.{scaled}
use Rattle.gf256.proofs.Lists.{get_or-scaled}
use Rattle.rs_code.specs.Word.{weighted_sum, IsReedSolomonWord}
use Rattle.rs_code.specs.Polynomial.{sum_of, IsBelowDegree}
use Rattle.std.proofs.lemmas.List.Elements.{All-append}
use Rattle.rs_code.proofs.Words.{length-sum_of, weighted_sum-sum_of}
use Rattle.rs_code.proofs.Locators.{at-sum_of}
use Rattle.rs_code.proofs.Steps.{weighted_sum-push, weighted_sum_more, at_dropped, drop_more_same, bit_xor-plus, same_from_take}

pub weighted_sum-scaled : (a : ℕ) (word : List ℕ) (i : ℕ) → weighted_sum (scaled a word) i ≡ times a (weighted_sum word i)
weighted_sum-scaled a [] i = sym (times-zero a)
weighted_sum-scaled a (symbol ∷ rest) i =
    rw (
      length-map rest (times a),
      weighted_sum-scaled a rest i,
      times_assoc a symbol (power alpha (length rest * i)),
      times-plus a (times symbol (power alpha (length rest * i))) (weighted_sum rest i),
    )
    refl

-- one word behind another
pub weighted_sum-append : (u v : List ℕ) (i : ℕ)
    → weighted_sum (u ++ v) i ≡ plus (times (weighted_sum u i) (power alpha (length v * i))) (weighted_sum v i)
weighted_sum-append [] v i = sym (rw (zero-times (power alpha (length v * i))) (zero-plus (weighted_sum v i)))
weighted_sum-append (symbol ∷ u) v i =
    let longer : length (u ++ v) * i ≡ length u * i + length v * i = rw (length-append u v) (omega arith) in
    rw (
      longer,
      power-add alpha (length u * i) (length v * i),
      weighted_sum-append u v i,
      plus-times (times symbol (power alpha (length u * i))) (weighted_sum u i) (power alpha (length v * i)),
      times_assoc symbol (power alpha (length u * i)) (power alpha (length v * i)),
    )
    (sym (plus_assoc _ _ _))

-- ---- a generator with a further root

-- x g + a (x^d + g), for the first d coefficients below the leading one
abbrev pub raised : ℕ → ℕ → List ℕ → List ℕ
raised d a g = sum_of (take d g ++ 0 ∷ []) (scaled a (1 ∷ take d g))

-- the sum of x w + a (p + w) where w is p or a is x
raised_term : (w x a p : ℕ) → (w ≡ p) ⊎ (a ≡ x) → plus (times w x) (times a (plus p w)) ≡ times x p
raised_term w x a p known =
    ⊎_elim
    (λ (e : w ≡ p). rw (e, plus_self p, times-zero a, plus-zero (times p x)) (times_comm p x))
    (λ (e : a ≡ x). rw (
      e,
      times-plus x p w,
      plus_comm (times x p) (times x w),
      times_comm x w,
      ← plus_assoc (times w x) (times w x) (times x p),
      plus_self (times w x),
    )
    (zero-plus (times x p)))
    known

pub weighted_sum-raised : (d a : ℕ) (g : List ℕ) (i : ℕ) → d ≤ length g
    → (weighted_sum (take d g) i ≡ power alpha (d * i)) ⊎ (a ≡ power alpha i)
    → weighted_sum (raised d a g) i ≡ power alpha ((d + 1) * i)
weighted_sum-raised d a g i enough known =
    let front : List ℕ = take d g in
    let long : length front ≡ d = length-take-le d g enough in
    let same : length (front ++ 0 ∷ []) ≡ length (scaled a (1 ∷ front)) =
    length-append front (0 ∷ []) ∙ omega (arith, length-map front (times a)) in
    let next : (d + 1) * i ≡ i + d * i = omega arith in
    weighted_sum-sum_of (front ++ 0 ∷ []) (scaled a (1 ∷ front)) same i
    ∙ rw (
      weighted_sum-push front 0 i (omega arith),
      weighted_sum-scaled a (1 ∷ front) i,
      long,
      one-times (power alpha (d * i)) (power-lt alpha (d * i)),
      plus-zero (times (weighted_sum front i) (power alpha i)),
      next,
      power-add alpha i (d * i),
    )
    (raised_term (weighted_sum front i) (power alpha i) a (power alpha (d * i)) known)

pub length-raised : (d a : ℕ) (g : List ℕ) → d ≤ length g → length (raised d a g) ≡ d + 1
length-raised d a g enough =
    length-sum_of (take d g ++ 0 ∷ []) (scaled a (1 ∷ take d g)) (length-append (take d g) (0 ∷ []) ∙ omega (arith, length-map (take d g) (times a)))
    ∙ length-append (take d g) (0 ∷ []) ∙ omega (arith, length-take-le d g enough)

-- the coefficients of x g, and those of g behind its leading 1
kept_coefficient : (d k : ℕ) (g : List ℕ) → k < d + 1 → d ≤ length g → IsBelowDegree d g → get_or (take d g ++ 0 ∷ []) k 0 ≡ get_or g k 0
kept_coefficient d k g within enough zeros =
    ⊎_elim
    (λ (below : k < d). get_or_append_left (take d g) (0 ∷ []) 0 k (omega (arith, below, length-take-le d g enough)) ∙ get_or-take d g k 0 below)
    (λ (above : d ≤ k). get_or_at (take d g) 0 [] 0 k (omega (arith, length-take-le d g enough, within, above)) ∙ sym (zeros k above))
    (cases_lt k d)

above_coefficient : (d k : ℕ) (g : List ℕ) → k < d + 1 → get_or (1 ∷ take d g) k 0 ≡ get_or (1 ∷ g) k 0
above_coefficient d zero g within = refl
above_coefficient d (suc k) g within = get_or-take d g k 0 (omega (arith, within))

-- a further coefficient is written
pub raised_more : (d a k above : ℕ) (g now : List ℕ) → k < d + 1 → d < length g → length now ≡ length g → IsBelowDegree d g
    → above ≡ get_or (1 ∷ g) k 0
    → take k now ≡ take k (raised d a g)
    → take (k + 1) (set now k (plus (get_or g k 0) (times a above))) ≡ take (k + 1) (raised d a g)
raised_more d a k above g now within enough same zeros above_is written =
    let front : List ℕ = take d g in
    let long : length front ≡ d = length-take-le d g (omega (arith, enough)) in
    let full : length (raised d a g) ≡ d + 1 = length-raised d a g (omega (arith, enough)) in
    let here : get_or (raised d a g) k 0 ≡ plus (get_or g k 0) (times a above) =
    at-sum_of (front ++ 0 ∷ []) (scaled a (1 ∷ front)) k
    ∙ rw (get_or-scaled a (1 ∷ front) k, kept_coefficient d k g within (omega (arith, enough)) zeros, above_coefficient d k g within, above_is) refl in
    take_more_set now k (plus (get_or g k 0) (times a above)) (omega (arith, within, enough, same))
    ∙ rw (written, ← here) refl
    ∙ sym (take_more (raised d a g) k 0 (omega (arith, full, within)))

-- ---- a symbol is fed

-- the register one place on, and the generator times a factor
abbrev pub fed : ℕ → List ℕ → List ℕ → List ℕ
fed f g register = sum_of (drop 1 register ++ 0 ∷ []) (scaled f (take (length register) g))

pub weighted_sum-fed : (symbol : ℕ) (g register : List ℕ) (i : ℕ) → 1 ≤ length register → length register ≤ length g
    → weighted_sum (take (length register) g) i ≡ power alpha (length register * i)
    → weighted_sum (fed (plus symbol (get_or register 0 0)) g register) i
    ≡ plus (times (weighted_sum register i) (power alpha i)) (times symbol (power alpha (length register * i)))
weighted_sum-fed symbol g [] i some enough root = absurd (omega (arith, some))
weighted_sum-fed symbol g (first ∷ rest) i some enough root =
    let n : ℕ = suc (length rest) in
    let W : ℕ = weighted_sum rest i in
    let x : ℕ = power alpha i in
    let P : ℕ = power alpha (length rest * i) in
    let X : ℕ = power alpha (n * i) in
    let multiple : List ℕ = scaled (plus symbol first) (take n g) in
    let same : length (rest ++ 0 ∷ []) ≡ length multiple =
    length-append rest (0 ∷ []) ∙ omega (arith, length-map (take n g) (times (plus symbol first)), length-take-le n g enough) in
    let top : X ≡ times P x = ap (power alpha) (omega arith) ∙ power-add alpha (length rest * i) i in
    let left : weighted_sum (sum_of (rest ++ 0 ∷ []) multiple) i ≡ plus (times W x) (plus (times symbol X) (times first X)) =
    weighted_sum-sum_of (rest ++ 0 ∷ []) multiple same i
    ∙ rw (
      weighted_sum-push rest 0 i (omega arith),
      plus-zero (times W x),
      weighted_sum-scaled (plus symbol first) (take n g) i,
      root,
      plus-times symbol first X,
    ) refl in
    let right : plus (times (plus (times first P) W) x) (times symbol X) ≡ plus (times W x) (plus (times symbol X) (times first X)) =
    rw (
      plus-times (times first P) W x,
      times_assoc first P x,
      ← top,
      plus_comm (times first X) (times W x),
      plus_assoc (times W x) (times first X) (times symbol X),
      plus_comm (times first X) (times symbol X),
    ) refl in
    left ∙ sym right

-- the places of the new register
at-fed : (f : ℕ) (g register : List ℕ) (k : ℕ) → k + 1 < length register → get_or (fed f g register) k 0 ≡ plus (get_or register (k + 1) 0) (times f (get_or g k 0))
at-fed f g register k within =
    let next : 1 + k ≡ k + 1 = omega arith in
    at-sum_of (drop 1 register ++ 0 ∷ []) (scaled f (take (length register) g)) k
    ∙ rw (
      get_or_append_left (drop 1 register) (0 ∷ []) 0 k (omega (arith, within, length-drop 1 register)),
      get_or-drop 1 register k 0,
      next,
      get_or-scaled f (take (length register) g) k,
      get_or-take (length register) g k 0 (omega (arith, within)),
    )
    refl

at-fed_last : (f : ℕ) (g register : List ℕ) (last : ℕ) → last + 1 ≡ length register → get_or (fed f g register) last 0 ≡ times f (get_or g last 0)
at-fed_last f g register last end =
    at-sum_of (drop 1 register ++ 0 ∷ []) (scaled f (take (length register) g)) last
    ∙ rw (
      get_or_at (drop 1 register) 0 [] 0 last (omega (arith, end, length-drop 1 register)),
      get_or-scaled f (take (length register) g) last,
      get_or-take (length register) g last 0 (omega (arith, end)),
    )
    (zero-plus _)

pub length-fed : (f : ℕ) (g register : List ℕ) → 1 ≤ length register → length register ≤ length g → length (fed f g register) ≡ length register
length-fed f g register some enough =
    let front : length (drop 1 register ++ 0 ∷ []) ≡ length register =
    length-append (drop 1 register) (0 ∷ []) ∙ omega (arith, some, length-drop 1 register) in
    length-sum_of (drop 1 register ++ 0 ∷ []) (scaled f (take (length register) g))
    (omega (arith, front, length-map (take (length register) g) (times f), length-take-le (length register) g enough))
    ∙ front

-- a further place is written
pub fed_more : (f : ℕ) (g now before : List ℕ) (k : ℕ) → k + 1 < length before → length now ≡ length before → length before ≤ length g
    → take k now ≡ take k (fed f g before) → drop k now ≡ drop k before
    → take (k + 1) (set now k (bit_xor (get_or now (k + 1) 0) (times f (get_or g k 0)))) ≡ take (k + 1) (fed f g before)
fed_more f g now before k within same enough written left =
    let next : get_or now (k + 1) 0 ≡ get_or before (k + 1) 0 = at_dropped now before (k + 1) (drop_more_same now before k left) in
    take_more_set now k _ (omega (arith, within, same))
    ∙ rw (bit_xor-plus (get_or now (k + 1) 0) (times f (get_or g k 0)), next, written, ← at-fed f g before k within) refl
    ∙ sym (take_more (fed f g before) k 0 (omega (arith, within, length-fed f g before (omega (arith, within)) enough)))

-- the last place is written
pub fed_all : (f : ℕ) (g now before : List ℕ) (last : ℕ) → last + 1 ≡ length before → length now ≡ length before → length before ≤ length g
    → take last now ≡ take last (fed f g before)
    → set now last (times f (get_or g last 0)) ≡ fed f g before
fed_all f g now before last end same enough written =
    let long : length (fed f g before) ≡ length before = length-fed f g before (omega (arith, end)) enough in
    same_from_take (set now last (times f (get_or g last 0))) (fed f g before) (last + 1)
    (omega (arith, end, same, length-set now last (times f (get_or g last 0)))) (omega (arith, end, long))
    (take_more_set now last _ (omega (arith, end, same)) ∙ rw (written, ← at-fed_last f g before last end) refl
    ∙ sym (take_more (fed f g before) last 0 (omega (arith, end, long))))

-- ---- the word

-- the remainder of the symbols, and so of one more
pub remainder_more : (symbols now before : List ℕ) (n k i : ℕ) → k < length symbols → IsElement (get_or symbols k 0)
    → weighted_sum before i ≡ times (weighted_sum (take k symbols) i) (power alpha (n * i))
    → weighted_sum now i ≡ plus (times (weighted_sum before i) (power alpha i)) (times (get_or symbols k 0) (power alpha (n * i)))
    → weighted_sum now i ≡ times (weighted_sum (take (k + 1) symbols) i) (power alpha (n * i))
remainder_more symbols now before n k i within symbol_in remainder step =
    step
    ∙ rw (
      remainder,
      weighted_sum_more symbols k i within symbol_in,
      plus-times (times (weighted_sum (take k symbols) i) (power alpha i)) (get_or symbols k 0) (power alpha (n * i)),
      times_assoc (weighted_sum (take k symbols) i) (power alpha (n * i)) (power alpha i),
      times_comm (power alpha (n * i)) (power alpha i),
      ← times_assoc (weighted_sum (take k symbols) i) (power alpha i) (power alpha (n * i)),
    )
    refl

-- symbols and their remainder are a word of the code
pub completed_word : (t : ℕ) (symbols out : List ℕ) → length symbols + length out ≤ 255 → All IsElement symbols → All IsElement out
    → length out ≡ 2 * t
    → ((i : ℕ) → i < 2 * t → weighted_sum out i ≡ times (weighted_sum symbols i) (power alpha (2 * t * i)))
    → IsReedSolomonWord t (symbols ++ out)
completed_word t symbols out short symbols_in out_in room remainder = record {
  short = omega (arith, short, length-append symbols out);
  elements = All-append IsElement symbols out symbols_in out_in;
  sums = λ i h. weighted_sum-append symbols out i ∙ rw (remainder i h, room) (plus_self _);
}
