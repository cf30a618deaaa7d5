-- What the loops over a word's weighted sums keep.
use Rattle.std.proofs.Common.{false, true, Bool, ◌≡◌, ◌≢◌, ℕ, zero, suc, ◌+◌, ◌-◌, ◌*◌, ◌<◌, ◌≤◌, List, [], ◌∷◌, ◌++◌, length, take, drop, set, refl, sym, ◌∙◌, ap, ap₂, arith, get_or, length-append, add-one, add-zero, zero-add, below_more, get_or-set_other, get_or-set_same, drop-drop, length-set, append-nil, replicate}
use Rattle.std.proofs.lemmas.List.{take_more, take_more_set, take_all, length-map, length-take-le, map_push, length_push, take-map, drop-map, drop_more, get_or-take, get_or-drop, drop-set-lt}
use Rattle.std.proofs.lemmas.Bool.{ne_eqb}
use Rattle.std.specs.Prelude.{bit_xor}
use Rattle.gf256.specs.Field.{IsElement, plus, times, power, alpha}
use Rattle.gf256.proofs.FieldLaws.{times-zero, times_left_comm, plus_comm, plus_assoc, plus-zero, zero-plus, zero-times, times-one, plus-times, power-mul, times_comm, times_assoc, power-zero, power-suc, power-add}
use Rattle.rs_code.specs.Word.{weighted_sum}
use Rattle.rs_code.specs.Polynomial.{sum_of, value_at, IsBelowDegree}
use Rattle.rs_code.specs.inside.Errors.{sum_of_terms, weight, every_other, moment, powers, HasRoots, IsRooted, AreBelow, root_exponents}
use Rattle.gf256.specs.declared.Gf.{Gf}
use Rattle.gf256.specs.Linear.{values, IsVector, IsNonzero}
use Rattle.rs_code.proofs.Moments.{AreZero, moment-AreZero}
use Rattle.rs_code.proofs.Locators.{at-sum_of}
use Rattle.rs_code.proofs.Words.{elements_of, points, weighted_sum-moment}
use Rattle.rs_code.proofs.Roots.{value_at-take, Elements-powers, few_roots, root_exponents_hold, AreRootExponents}

-- a further symbol: Horner's step
pub weighted_sum-push : (word : List ℕ) (symbol i : ℕ) → IsElement symbol
    → weighted_sum (word ++ symbol ∷ []) i ≡ plus (times (weighted_sum word i) (power alpha i)) symbol
weighted_sum-push [] symbol i symbol_in =
    let none : 0 * i ≡ 0 = omega arith in
    rw (none, power-zero alpha, times-one symbol symbol_in, plus-zero symbol, zero-times (power alpha i), zero-plus symbol) refl
weighted_sum-push (first ∷ word) symbol i symbol_in =
    let longer : length (word ++ symbol ∷ []) * i ≡ length word * i + i = rw (length-append word (symbol ∷ [])) (omega arith) in
    rw (
      longer,
      power-add alpha (length word * i) i,
      weighted_sum-push word symbol i symbol_in,
      plus-times (times first (power alpha (length word * i))) (weighted_sum word i) (power alpha i),
      times_assoc first (power alpha (length word * i)) (power alpha i),
    )
    (sym (plus_assoc _ _ _))

pub weighted_sum_more : (word : List ℕ) (k i : ℕ) → k < length word → IsElement (get_or word k 0)
    → weighted_sum (take (k + 1) word) i ≡ plus (times (weighted_sum (take k word) i) (power alpha i)) (get_or word k 0)
weighted_sum_more word k i within symbol_in =
    rw (take_more word k 0 within) (weighted_sum-push (take k word) (get_or word k 0) i symbol_in)

-- the next point
pub next_point : (point next i : ℕ) → point ≡ power alpha i → next ≡ times point alpha → next ≡ power alpha (i + 1)
next_point point next i here step =
    step ∙ rw (here, times_comm (power alpha i) alpha, add-one i, power-suc alpha i) refl

-- a further value is written in place i
pub written_more : (xs : List ℕ) (F : ℕ → ℕ) (i value : ℕ) → i < length xs → ((k : ℕ) → k < i → get_or xs k 0 ≡ F k) → value ≡ F i
    → (k : ℕ) → k < i + 1 → get_or (set xs i value) k 0 ≡ F k
written_more xs F i value within before here =
    below_more _ _
    (λ k h. let ne : k ≢ i = omega arith in get_or-set_other xs i k value 0 ne ∙ before k h)
    (get_or-set_same xs i value 0 within ∙ here)

-- the sum of two bytes is their exclusive or
pub bit_xor-plus : (a b : ℕ) → bit_xor a b ≡ plus a b
unfolding plus
bit_xor-plus a b = refl

pub at_dropped : (xs ys : List ℕ) (i : ℕ) → drop i xs ≡ drop i ys → get_or xs i 0 ≡ get_or ys i 0
at_dropped xs ys i e =
    let at : (zs : List ℕ) → get_or (drop i zs) 0 0 ≡ get_or zs i 0 = λ zs. get_or-drop i zs 0 0 ∙ ap (λ n. get_or zs n 0) (add-zero i) in
    sym (at xs) ∙ ap (λ zs. get_or zs 0 0) e ∙ at ys

pub drop_more_same : (xs ys : List ℕ) (i : ℕ) → drop i xs ≡ drop i ys → drop (i + 1) xs ≡ drop (i + 1) ys
drop_more_same xs ys i e = sym (drop-drop 1 i xs) ∙ ap (drop 1) e ∙ drop-drop 1 i ys

-- a further error is added to a word
pub added_more : (now before errors : List ℕ) (i : ℕ) → i < length now → i < length (sum_of before errors)
    → take i now ≡ take i (sum_of before errors) → drop i now ≡ drop i before
    → take (i + 1) (set now i (bit_xor (get_or now i 0) (get_or errors i 0))) ≡ take (i + 1) (sum_of before errors)
added_more now before errors i within within_sum front left =
    take_more_set now i _ within
    ∙ rw (front, bit_xor-plus (get_or now i 0) (get_or errors i 0), at_dropped now before i left, ← at-sum_of before errors i) refl
    ∙ sym (take_more (sum_of before errors) i 0 within_sum)

pub left_more : (now before : List ℕ) (i value : ℕ) → drop i now ≡ drop i before → drop (i + 1) (set now i value) ≡ drop (i + 1) before
left_more now before i value left = drop-set-lt (i + 1) now i value (omega arith) ∙ drop_more_same now before i left

pub weight-append : (xs ys : List ℕ) → weight (xs ++ ys) ≡ weight xs + weight ys
weight-append [] ys = sym (zero-add (weight ys))
weight-append (zero ∷ xs) ys = weight-append xs ys
weight-append (suc n ∷ xs) ys = omega (arith, weight-append xs ys)

pub weight-le : (xs : List ℕ) → weight xs ≤ length xs
weight-le [] = omega arith
weight-le (zero ∷ xs) = omega (arith, weight-le xs)
weight-le (suc n ∷ xs) = omega (arith, weight-le xs)

pub weight_more : (xs : List ℕ) (i : ℕ) → i < length xs → weight (take (i + 1) xs) ≡ weight (take i xs) + weight (get_or xs i 0 ∷ [])
weight_more xs i within = rw (take_more xs i 0 within) (weight-append (take i xs) (get_or xs i 0 ∷ []))

-- lists that agree in more places than they have are the same
pub same_from_take : (xs ys : List ℕ) (n : ℕ) → length xs ≤ n → length ys ≤ n → take n xs ≡ take n ys → xs ≡ ys
same_from_take xs ys n xs_short ys_short e = sym (take_all n xs xs_short) ∙ e ∙ take_all n ys ys_short

-- ---- errors are placed

-- a value is added to the symbol at place s
pub weighted_sum-set : (word : List ℕ) (s value i : ℕ) → s < length word
    → weighted_sum (set word s (plus (get_or word s 0) value)) i ≡ plus (weighted_sum word i) (times value (power alpha ((length word - 1 - s) * i)))
weighted_sum-set [] s value i within = absurd (omega (arith, within))
weighted_sum-set (first ∷ word) zero value i within =
    let here : suc (length word) - 1 - 0 ≡ length word = omega arith in
    rw (
      here,
      plus-times first value (power alpha (length word * i)),
      plus_assoc (times first (power alpha (length word * i))) (times value (power alpha (length word * i))) (weighted_sum word i),
      plus_comm (times value (power alpha (length word * i))) (weighted_sum word i),
    )
    (sym (plus_assoc _ _ _))
weighted_sum-set (first ∷ word) (suc s) value i within =
    let here : suc (length word) - 1 - suc s ≡ length word - 1 - s = omega arith in
    rw (here, length-set word s (plus (get_or word s 0) value), weighted_sum-set word s value i (omega (arith, within)))
    (sym (plus_assoc _ _ _))

pub IsRooted-set : (p word : List ℕ) (s value : ℕ) → s < length word → value_at p (power alpha (length word - 1 - s)) ≡ 0 → IsRooted p word
    → IsRooted p (set word s value)
IsRooted-set p [] s value within root rooted = tt
IsRooted-set p (first ∷ word) zero value within root rooted =
    let here : suc (length word) - 1 - 0 ≡ length word = omega arith in
    ((λ ne. sym (ap (λ n. value_at p (power alpha n)) here) ∙ root), rooted.1)
IsRooted-set p (first ∷ word) (suc s) value within root rooted =
    let here : suc (length word) - 1 - suc s ≡ length word - 1 - s = omega arith in (
      (λ ne. ap (λ n. value_at p (power alpha n)) (length-set word s value) ∙ rooted.0 ne),
      IsRooted-set p word s value (omega (arith, within)) (sym (ap (λ n. value_at p (power alpha n)) here) ∙ root) rooted.1,
    )

pub moment-none : (ys : List ℕ) (i : ℕ) → moment ys [] i ≡ 0
moment-none [] i = refl
moment-none (y ∷ ys) i = refl

pub moment-push : (ys xs : List ℕ) (x i : ℕ)
    → moment ys (xs ++ x ∷ []) i ≡ plus (moment ys xs i) (times (get_or ys (length xs) 0) (power x i))
moment-push [] xs x i = sym (rw (zero-times (power x i)) (plus-zero 0))
moment-push (y ∷ ys) [] x i = rw (moment-none ys i, plus-zero (times y (power x i))) (sym (zero-plus (times y (power x i))))
moment-push (y ∷ ys) (z ∷ xs) x i = rw (moment-push ys xs x i) (sym (plus_assoc _ _ _))

pub moment_more : (ys exponents : List ℕ) (k i : ℕ) → k < length exponents
    → moment ys (powers (take (k + 1) exponents)) i
    ≡ plus (moment ys (powers (take k exponents)) i) (times (get_or ys k 0) (power alpha (get_or exponents k 0 * i)))
moment_more ys exponents k i within =
    let long : length (powers (take k exponents)) ≡ k =
    length-map (take k exponents) (power alpha) ∙ length-take-le k exponents (omega (arith, within)) in
    rw (take_more exponents k 0 within, map_push (power alpha) (take k exponents) (get_or exponents k 0), power-mul alpha (get_or exponents k 0) i)
    (moment-push ys (powers (take k exponents)) (power alpha (get_or exponents k 0)) i
    ∙ ap (λ n. plus (moment ys (powers (take k exponents)) i) (times (get_or ys n 0) (power (power alpha (get_or exponents k 0)) i))) long)

pub HasRoots-at : (p exponents : List ℕ) (k : ℕ) → k < length exponents → HasRoots p (powers exponents) → value_at p (power alpha (get_or exponents k 0)) ≡ 0
HasRoots-at p [] k within roots = absurd (omega (arith, within))
HasRoots-at p (n ∷ exponents) zero within roots = roots.0
HasRoots-at p (n ∷ exponents) (suc k) within roots = HasRoots-at p exponents k (omega (arith, within)) roots.1

pub AreBelow-at : (m : ℕ) (exponents : List ℕ) (k : ℕ) → k < length exponents → AreBelow m exponents → get_or exponents k 0 < m
AreBelow-at m [] k within below = absurd (omega (arith, within))
AreBelow-at m (n ∷ exponents) zero within below = below.0
AreBelow-at m (n ∷ exponents) (suc k) within below = AreBelow-at m exponents k (omega (arith, within)) below.1

-- a place in the front of a list is written in the front
pub take_written : (n : ℕ) (xs : List ℕ) (at value : ℕ) → at < n → take n (set xs at value) ≡ set (take n xs) at value
take_written zero xs at value within = absurd (omega (arith, within))
take_written (suc n) [] at value within = refl
take_written (suc n) (x ∷ xs) zero value within = refl
take_written (suc n) (x ∷ xs) (suc at) value within = ap (λ ys. x ∷ ys) (take_written n xs at value (omega (arith, within)))

pub zeros_of_replicate : (n m : ℕ) → AreZero (take n (replicate m 0))
zeros_of_replicate zero m = tt
zeros_of_replicate (suc n) zero = tt
zeros_of_replicate (suc n) (suc m) = (refl, zeros_of_replicate n m)

pub zeros_replicate : (n : ℕ) → AreZero (replicate n 0)
zeros_replicate zero = tt
zeros_replicate (suc n) = (refl, zeros_replicate n)

pub weighted_sum-AreZero : (word : List ℕ) (i : ℕ) → AreZero word → weighted_sum word i ≡ 0
weighted_sum-AreZero word i zeros = weighted_sum-moment word i ∙ moment-AreZero word (points (length word)) i zeros

pub IsRooted-AreZero : (p word : List ℕ) → AreZero word → IsRooted p word
IsRooted-AreZero p [] zeros = tt
IsRooted-AreZero p (symbol ∷ rest) zeros = ((λ ne. absurd (ne zeros.0)), IsRooted-AreZero p rest zeros.1)

-- a further value is placed among the first n symbols
pub placed_more : (errors ys exponents : List ℕ) (n k i at : ℕ) → at < n → n ≤ length errors → k < length exponents
    → at + (get_or exponents k 0 + 1) ≡ n
    → weighted_sum (take n errors) i ≡ moment ys (powers (take k exponents)) i
    → weighted_sum (take n (set errors at (bit_xor (get_or errors at 0) (get_or ys k 0)))) i ≡ moment ys (powers (take (k + 1) exponents)) i
placed_more errors ys exponents n k i at within enough within_exponents place sums =
    let front : List ℕ = take n errors in
    let long : length front ≡ n = length-take-le n errors enough in
    let there : length front - 1 - at ≡ get_or exponents k 0 = omega (arith, place, long) in
    rw (
      bit_xor-plus (get_or errors at 0) (get_or ys k 0),
      take_written n errors at (plus (get_or errors at 0) (get_or ys k 0)) within,
      ← get_or-take n errors at 0 within,
      weighted_sum-set front at (get_or ys k 0) i (omega (arith, within, long)),
      there,
      sums,
    )
    (sym (moment_more ys exponents k i within_exponents))

pub rooted_more : (p errors exponents : List ℕ) (n k at value : ℕ) → at < n → n ≤ length errors → k < length exponents
    → at + (get_or exponents k 0 + 1) ≡ n → HasRoots p (powers exponents) → IsRooted p (take n errors)
    → IsRooted p (take n (set errors at value))
rooted_more p errors exponents n k at value within enough within_exponents place roots rooted =
    let front : List ℕ = take n errors in
    let long : length front ≡ n = length-take-le n errors enough in
    let there : length front - 1 - at ≡ get_or exponents k 0 = omega (arith, place, long) in
    rw (take_written n errors at value within)
    (IsRooted-set p front at value (omega (arith, within, long))
    (ap (λ j. value_at p (power alpha j)) there ∙ HasRoots-at p exponents k within_exponents roots) rooted)

-- ---- the values of a polynomial

-- Horner's step, from the highest coefficient down
pub evaluate_more : (p : List ℕ) (x i value : ℕ) → i < length p → value ≡ value_at (drop (i + 1) p) x
    → plus (times value x) (get_or p i 0) ≡ value_at (drop i p) x
evaluate_more p x i value within here =
    rw (here, drop_more p i 0 within, times_comm (value_at (drop (i + 1) p) x) x) (plus_comm _ _)

-- the terms of odd degree, two coefficients at a time
pub odd_last : (p : List ℕ) (i x : ℕ) → length p ≤ i + 1 → value_at (every_other false (drop i p)) x ≡ 0
odd_last [] zero x end = refl
odd_last [] (suc i) x end = refl
odd_last (a ∷ []) zero x end = ap (plus 0) (times-zero x) ∙ plus-zero 0
odd_last (a ∷ b ∷ p) zero x end = absurd (omega (arith, end))
odd_last (a ∷ p) (suc i) x end = odd_last p i x (omega (arith, end))

pub odd_more : (p : List ℕ) (i value x : ℕ) → i + 1 < length p → times value x ≡ value_at (every_other false (drop (i + 2) p)) x
    → times (plus (times value (times x x)) (get_or p (i + 1) 0)) x ≡ value_at (every_other false (drop i p)) x
odd_more p i value x within here =
    let b : ℕ = get_or p (i + 1) 0 in
    let v : ℕ = value_at (every_other false (drop (i + 2) p)) x in
    let two : drop i p ≡ get_or p i 0 ∷ b ∷ drop (i + 2) p =
    drop_more p i 0 (omega (arith, within))
    ∙ ap (λ xs. get_or p i 0 ∷ xs) (drop_more p (i + 1) 0 within ∙ ap (λ n. b ∷ drop n p) (omega arith)) in
    times_comm (plus (times value (times x x)) b) x
    ∙ ap (times x) (plus_comm (times value (times x x)) b ∙ ap (plus b) (times_left_comm value x x ∙ ap (times x) here))
    ∙ sym (zero-plus (times x (plus b (times x v))))
    ∙ sym (ap (λ q. value_at (every_other false q) x) two)

take-every_other : (n : ℕ) (kept : Bool) (p : List ℕ) → every_other kept (take n p) ≡ take n (every_other kept p)
take-every_other zero kept p = refl
take-every_other (suc n) kept [] = refl
take-every_other (suc n) true (a ∷ p) = ap (λ q. a ∷ q) (take-every_other n false p)
take-every_other (suc n) false (a ∷ p) = ap (λ q. 0 ∷ q) (take-every_other n true p)

degree-every_other : (n : ℕ) (kept : Bool) (p : List ℕ) → IsBelowDegree n p → IsBelowDegree n (every_other kept p)
degree-every_other n kept [] degree k h = refl
degree-every_other n true (a ∷ p) degree zero h = degree 0 h
degree-every_other n false (a ∷ p) degree zero h = refl
degree-every_other n true (a ∷ p) degree (suc k) h = degree-every_other (n - 1) false p (λ j i. degree (suc j) (omega (arith, i))) k (omega (arith, h))
degree-every_other n false (a ∷ p) degree (suc k) h = degree-every_other (n - 1) true p (λ j i. degree (suc j) (omega (arith, i))) k (omega (arith, h))

-- the coefficients past the degree can be left out
pub value_at-every_other : (n : ℕ) (kept : Bool) (p : List ℕ) (x : ℕ) → IsBelowDegree n p
    → value_at (every_other kept (take n p)) x ≡ value_at (every_other kept p) x
value_at-every_other n kept p x degree =
    ap (λ q. value_at q x) (take-every_other n kept p) ∙ value_at-take n (every_other kept p) x (degree-every_other n kept p degree)

-- ---- the roots

pub roots_few : (t n : ℕ) (p : List ℕ) → n ≤ 255 → IsVector 17 (t + 1) p → IsNonzero p → length (root_exponents p n) ≤ t
roots_few t n p within vector nonzero =
    let roots : AreRootExponents p n (root_exponents p n) = root_exponents_hold p n within in
    omega (
      arith,
      length-map (root_exponents p n) (power alpha),
      few_roots t nonzero.0 p (powers (root_exponents p n)) (elements_of p vector.elements)
          (λ k above. vector.zeros k (omega (arith, above))) nonzero.1 (Elements-powers (root_exponents p n)) roots.distinct roots.roots,
    )

pub root_exponents-root : (p : List ℕ) (n : ℕ) → value_at p (power alpha n) ≡ 0 → root_exponents p (n + 1) ≡ root_exponents p n ++ n ∷ []
root_exponents-root p n root = rw (add-one n, root) refl

pub root_exponents-none : (p : List ℕ) (n : ℕ) → value_at p (power alpha n) ≢ 0 → root_exponents p (n + 1) ≡ root_exponents p n
root_exponents-none p n none = rw (add-one n, ne_eqb (value_at p (power alpha n)) 0 none) (append-nil (root_exponents p n))

-- there is room for a further root
pub root_room : (t n count : ℕ) (p : List ℕ) → n + 1 ≤ 255 → t ≤ 16 → IsVector 17 (t + 1) p → IsNonzero p → value_at p (power alpha n) ≡ 0
    → count ≡ length (root_exponents p n) → count < 16
root_room t n count p within small vector nonzero root counted =
    let more : length (root_exponents p (n + 1)) ≡ count + 1 =
    ap (λ ks. length ks) (root_exponents-root p n root) ∙ length_push (root_exponents p n) n ∙ ap (λ k. k + 1) (sym counted) in
    omega (arith, more, small, roots_few t (n + 1) p within vector nonzero)

-- a further root is kept in place count
pub root_kept : (p exponents : List ℕ) (n count : ℕ) → count < length exponents → value_at p (power alpha n) ≡ 0
    → take count exponents ≡ root_exponents p n
    → take (count + 1) (set exponents count n) ≡ root_exponents p (n + 1)
root_kept p exponents n count within root found =
    take_more_set exponents count n within ∙ ap (λ ks. ks ++ n ∷ []) found ∙ sym (root_exponents-root p n root)

-- ---- rows of numbers

pub values-take : (n : ℕ) (elements : List Gf) → values (take n elements) ≡ take n (values elements)
values-take n elements = sym (take-map (λ g. g.value) n elements)

pub values-drop : (n : ℕ) (elements : List Gf) → values (drop n elements) ≡ drop n (values elements)
values-drop n elements = sym (drop-map (λ g. g.value) n elements)

-- ---- terms of a sum

pub sum_of_terms-push : (xs : List ℕ) (x : ℕ) → sum_of_terms (xs ++ x ∷ []) ≡ plus (sum_of_terms xs) x
sum_of_terms-push [] x = plus-zero x ∙ sym (zero-plus x)
sum_of_terms-push (y ∷ xs) x = ap (plus y) (sum_of_terms-push xs x) ∙ sym (plus_assoc y (sum_of_terms xs) x)

pub sum_of_terms_more : (xs : List ℕ) (k : ℕ) → k < length xs → sum_of_terms (take (k + 1) xs) ≡ plus (sum_of_terms (take k xs)) (get_or xs k 0)
sum_of_terms_more xs k within = ap sum_of_terms (take_more xs k 0 within) ∙ sum_of_terms-push (take k xs) (get_or xs k 0)

pub at-zeros : (n k : ℕ) → get_or (replicate {A = ℕ} n 0) k 0 ≡ 0
at-zeros zero k = refl
at-zeros (suc n) zero = refl
at-zeros (suc n) (suc k) = at-zeros n k

-- zeros behind add nothing
pub sum_of_terms_front : (n : ℕ) (xs : List ℕ) → ((k : ℕ) → n ≤ k → get_or xs k 0 ≡ 0) → sum_of_terms (take n xs) ≡ sum_of_terms xs
sum_of_terms_front zero [] none = refl
sum_of_terms_front zero (x ∷ xs) none =
    sym (ap₂ (λ u v. plus u v) (none 0 (omega arith)) (sym (sum_of_terms_front zero xs (λ k h. none (suc k) (omega arith)))) ∙ zero-plus 0)
sum_of_terms_front (suc n) [] none = refl
sum_of_terms_front (suc n) (x ∷ xs) none = ap (plus x) (sum_of_terms_front n xs (λ k h. none (suc k) (omega (arith, h))))

-- errors times the powers i of their points
pub terms_moment : (terms ys exponents : List ℕ) (i : ℕ) → length exponents ≤ length terms → length exponents ≤ length ys
    → ((k : ℕ) → k < length exponents → get_or terms k 0 ≡ times (get_or ys k 0) (power (power alpha (get_or exponents k 0)) i))
    → sum_of_terms (take (length exponents) terms) ≡ moment ys (powers exponents) i
terms_moment terms ys [] i enough full are = sym (moment-none ys i)
terms_moment [] ys (n ∷ exponents) i enough full are = absurd (omega (arith, enough))
terms_moment (x ∷ terms) [] (n ∷ exponents) i enough full are = absurd (omega (arith, full))
terms_moment (x ∷ terms) (y ∷ ys) (n ∷ exponents) i enough full are =
    rw (are 0 (omega arith)) (ap (plus (times y (power (power alpha n) i)))
    (terms_moment terms ys exponents i (omega (arith, enough)) (omega (arith, full)) (λ k h. are (suc k) (omega (arith, h)))))

pub first_term : (y point : ℕ) → IsElement y → y ≡ times y (power point 0)
first_term y point y_in = sym (ap (times y) (power-zero point) ∙ times-one y y_in)

-- each goes on by its point
pub next_term : (term next point y i : ℕ) → next ≡ times term point → term ≡ times y (power point i) → next ≡ times y (power point (i + 1))
next_term term next point y i step is =
    step ∙ ap (λ v. times v point) is ∙ times_assoc y (power point i) point
    ∙ ap (times y) (times_comm (power point i) point ∙ sym (power-suc point i) ∙ ap (power point) (omega arith))
