-- The weighted sums of a word as moments, and how far two words of the code are apart.
use Rattle.std.proofs.Common.{◌≡◌, ◌≢◌, ℕ, zero, suc, ◌+◌, ◌*◌, ◌<◌, ◌≤◌, List, [], ◌∷◌, length, nat_eq, cond, true, false, refl, sym, ◌∙◌, ap, arith, ⊎_elim, zero-add}
use Rattle.std.proofs.lemmas.Bool.{cases_lt}
use Rattle.std.proofs.lemmas.Bool.Decides.{nat_tests, eqb_tells}
use Rattle.std.specs.Prelude.{All}
use Rattle.std.proofs.lemmas.List.Elements.{All-head, All-tail}
use Rattle.gf256.specs.Field.{IsElement, plus, power, alpha}
use Rattle.gf256.proofs.FieldLaws.{plus_exchange, plus-zero, plus_self, same_from_plus, plus-lt, plus-times, power-lt, power-mul, alpha_distinct}
use Rattle.rs_code.specs.Word.{weighted_sum, IsReedSolomonWord, differences}
use Rattle.rs_code.specs.Polynomial.{sum_of}
use Rattle.rs_code.specs.Laws.{WordsAreFarApart, NearIsSingle}
use Rattle.rs_code.specs.inside.Errors.{weight, moment, IsApart, AreDistinct}
use Rattle.rs_code.proofs.Moments.{Elements, AreZero, weight-cons_nonzero, vanishing}

-- the points of the symbols of a word of n symbols: the powers of alpha from n - 1 down to 0
abbrev pub points : ℕ → List ℕ
points zero = []
points (suc n) = power alpha n ∷ points n

pub weighted_sum-moment : (word : List ℕ) (i : ℕ) → weighted_sum word i ≡ moment word (points (length word)) i
weighted_sum-moment [] i = refl
weighted_sum-moment (symbol ∷ rest) i = rw (power-mul alpha (length rest) i, weighted_sum-moment rest i) refl

pub length-points : (n : ℕ) → length (points n) ≡ n
length-points zero = refl
length-points (suc n) = ap suc (length-points n)

pub Elements-points : (n : ℕ) → Elements (points n)
Elements-points zero = tt
Elements-points (suc n) = (power-lt alpha n, Elements-points n)

pub points_apart : (k n : ℕ) → n ≤ k → k < 255 → IsApart (power alpha k) (points n)
points_apart k zero below within = tt
points_apart k (suc n) below within = (alpha_distinct n k (omega (arith, below)) within, points_apart k n (omega (arith, below)) within)

pub points_distinct : (n : ℕ) → n ≤ 255 → AreDistinct (points n)
points_distinct zero within = tt
points_distinct (suc n) within = (points_apart n n (omega arith) (omega (arith, within)), points_distinct n (omega (arith, within)))

pub elements_of : (word : List ℕ) → All IsElement word → Elements word
elements_of [] all = tt
elements_of (symbol ∷ rest) all = (All-head IsElement symbol rest all, elements_of rest (All-tail IsElement symbol rest all))

-- ---- the sum of two words of one length, place by place

pub length-sum_of : (u v : List ℕ) → length u ≡ length v → length (sum_of u v) ≡ length u
length-sum_of [] [] same = refl
length-sum_of [] (y ∷ v) same = absurd (omega (arith, same))
length-sum_of (x ∷ u) [] same = refl
length-sum_of (x ∷ u) (y ∷ v) same = ap suc (length-sum_of u v (omega (arith, same)))

pub weighted_sum-sum_of : (u v : List ℕ) → length u ≡ length v → (i : ℕ)
    → weighted_sum (sum_of u v) i ≡ plus (weighted_sum u i) (weighted_sum v i)
weighted_sum-sum_of [] [] same i = sym (plus-zero 0)
weighted_sum-sum_of [] (y ∷ v) same i = absurd (omega (arith, same))
weighted_sum-sum_of (x ∷ u) [] same i = absurd (omega (arith, same))
weighted_sum-sum_of (x ∷ u) (y ∷ v) same i =
    let rest_same : length u ≡ length v = omega (arith, same) in
    rw (length-sum_of u v rest_same, weighted_sum-sum_of u v rest_same i, ← rest_same, plus-times x y (power alpha (length u * i)))
    (plus_exchange _ _ _ _)

pub Elements-sum_of : (u v : List ℕ) → Elements u → Elements v → Elements (sum_of u v)
Elements-sum_of [] v u_in v_in = v_in
Elements-sum_of (x ∷ u) [] u_in v_in = u_in
Elements-sum_of (x ∷ u) (y ∷ v) u_in v_in = (plus-lt x y u_in.0 v_in.0, Elements-sum_of u v u_in.1 v_in.1)

-- a place counts for the weight of the sum where the two symbols differ
pub weight-sum_cons : (x y : ℕ) (rest : List ℕ) → weight (plus x y ∷ rest) ≡ (cond (nat_eq x y) 0 1) + weight rest
weight-sum_cons x y rest =
    ⊎_elim
    (λ (t : (nat_eq x y ≡ true) × (x ≡ y)).
    rw (t.0, t.1, plus_self y) (sym (zero-add (weight rest))))
    (λ (t : (nat_eq x y ≡ false) × (x ≢ y)).
    rw (t.0, weight-cons_nonzero (plus x y) rest (λ e. t.1 (same_from_plus x y e))) (omega arith))
    (eqb_tells x y)

pub differences-weight : (u v : List ℕ) → length u ≡ length v → differences u v ≡ weight (sum_of u v)
differences-weight [] [] same = refl
differences-weight [] (y ∷ v) same = absurd (omega (arith, same))
differences-weight (x ∷ u) [] same = absurd (omega (arith, same))
differences-weight (x ∷ u) (y ∷ v) same =
    rw (differences-weight u v (omega (arith, same))) (sym (weight-sum_cons x y (sum_of u v)))

pub same_from_sum : (u v : List ℕ) → length u ≡ length v → AreZero (sum_of u v) → u ≡ v
same_from_sum [] [] same zeros = refl
same_from_sum [] (y ∷ v) same zeros = absurd (omega (arith, same))
same_from_sum (x ∷ u) [] same zeros = absurd (omega (arith, same))
same_from_sum (x ∷ u) (y ∷ v) same zeros =
    let heads : x ≡ y = same_from_plus x y zeros.0 in
    let tails : u ≡ v = same_from_sum u v (omega (arith, same)) zeros.1 in cc

-- ---- the distance

-- a word of at most 255 symbols, of which at most r are not 0, is 0 where its weighted sums below r are
pub word_vanishes : (r : ℕ) (word : List ℕ) → length word ≤ 255 → Elements word → weight word ≤ r
    → ((i : ℕ) → i < r → weighted_sum word i ≡ 0) → AreZero word
word_vanishes r word short elements few sums =
    vanishing r word (points (length word)) (omega (arith, length-points (length word))) elements (Elements-points (length word))
    (points_distinct (length word) short) few (λ i h. sym (weighted_sum-moment word i) ∙ sums i h)

-- two words of the code that differ in at most 2 t places are the same
pub same_word : (t : ℕ) (u v : List ℕ) → IsReedSolomonWord t u → IsReedSolomonWord t v → length u ≡ length v → differences u v ≤ 2 * t → u ≡ v
same_word t u v u_code v_code same few =
    same_from_sum u v same
    (word_vanishes (2 * t) (sum_of u v) (omega (arith, length-sum_of u v same, u_code.short))
    (Elements-sum_of u v (elements_of u u_code.elements) (elements_of v v_code.elements))
    (omega (arith, few, differences-weight u v same))
    (λ i h. weighted_sum-sum_of u v same i ∙ rw (u_code.sums i h, v_code.sums i h) (plus-zero 0)))

pub words_are_far_apart : WordsAreFarApart
words_are_far_apart t u v u_code v_code same differ =
    ⊎_elim (λ far. omega (arith, far)) (λ close. absurd (differ (same_word t u v u_code v_code same close)))
    (cases_lt (2 * t) (differences u v))

symbols_triangle : (z x y : ℕ) → cond (nat_eq x y) 0 1 ≤ cond (nat_eq z x) 0 1 + cond (nat_eq z y) 0 1
symbols_triangle z x y = grind (arith, nat_tests)

-- two lists differ in at most the places in which either differs from a third
pub differences_triangle : (w u v : List ℕ) → length u ≡ length w → length v ≡ length w
    → differences u v ≤ differences w u + differences w v
differences_triangle [] [] [] us vs = omega arith
differences_triangle [] [] (y ∷ v) us vs = absurd (omega (arith, vs))
differences_triangle [] (x ∷ u) v us vs = absurd (omega (arith, us))
differences_triangle (z ∷ w) [] v us vs = absurd (omega (arith, us))
differences_triangle (z ∷ w) (x ∷ u) [] us vs = absurd (omega (arith, vs))
differences_triangle (z ∷ w) (x ∷ u) (y ∷ v) us vs =
    omega (arith, symbols_triangle z x y, differences_triangle w u v (omega (arith, us)) (omega (arith, vs)))

pub near_is_single : NearIsSingle
near_is_single t received u v u_near v_near =
    let same : length u ≡ length v = u_near.same_length ∙ sym v_near.same_length in
    same_word t u v u_near.code_word v_near.code_word same
    (omega (arith, differences_triangle received u v u_near.same_length v_near.same_length, u_near.close, v_near.close))
