-- The locator of the key equation is 0 at the inverses of the points of the errors.
use Rattle.std.proofs.Common.{ap₂, ◌≡◌, ◌≢◌, ℕ, zero, suc, ◌+◌, ◌-◌, ◌*◌, ◌<◌, ◌≤◌, List, [], ◌∷◌, length, refl, sym, ◌∙◌, ap, arith, subst, ⊎_elim, get_or}
use Rattle.std.specs.Prelude.{All}
use Rattle.gf256.specs.Field.{IsElement, plus, times, power, alpha, inverse}
use Rattle.gf256.proofs.FieldLaws.{plus_exchange, plus-zero, zero-plus, same_from_plus, plus-lt, times-lt, times_comm, times_assoc, times_left_comm, times-zero, zero-times, one-times, times-plus, plus-times, power-zero, power-suc, power-lt, power-add, power-mul, times-inverse, no_zero_divisors, alpha-ne-zero}
use Rattle.gf256.specs.Linear.{scaled}
use Rattle.gf256.proofs.Lists.{get_or-scaled}
use Rattle.rs_code.specs.Word.{weighted_sum, IsNear}
use Rattle.rs_code.specs.Polynomial.{value_at, sum_of, product, IsBelowDegree}
use Rattle.rs_code.specs.Laws.{AreSums, IsKeyPair, LocatorFindsErrors}
use Rattle.rs_code.specs.inside.Errors.{weight, moment, turned}
use Rattle.rs_code.proofs.Moments.{weighed, weighed-zero, weight-weighed, length-weighed, Elements-weighed, Elements, AreZero, vanishing}
use Rattle.rs_code.proofs.Words.{points, weighted_sum-moment, length-points, Elements-points, points_distinct, elements_of, length-sum_of, weighted_sum-sum_of, Elements-sum_of, differences-weight}

-- ---- the coefficients of sums and products

pub at-sum_of : (p q : List ℕ) (k : ℕ) → get_or (sum_of p q) k 0 ≡ plus (get_or p k 0) (get_or q k 0)
at-sum_of [] q k = sym (zero-plus (get_or q k 0))
at-sum_of (a ∷ p) [] k = sym (plus-zero (get_or (a ∷ p) k 0))
at-sum_of (a ∷ p) (b ∷ q) zero = refl
at-sum_of (a ∷ p) (b ∷ q) (suc k) = at-sum_of p q k

-- the constant term of a product, and what a further one adds to the coefficients of the higher part
pub at-product-zero : (a : ℕ) (p q : List ℕ) → get_or (product (a ∷ p) q) 0 0 ≡ times a (get_or q 0 0)
at-product-zero a p q = at-sum_of (scaled a q) (0 ∷ product p q) 0 ∙ plus-zero _ ∙ get_or-scaled a q 0

pub at-product-suc : (a : ℕ) (p q : List ℕ) (k : ℕ)
    → get_or (product (a ∷ p) q) (suc k) 0 ≡ plus (times a (get_or q (suc k) 0)) (get_or (product p q) k 0)
at-product-suc a p q k =
    at-sum_of (scaled a q) (0 ∷ product p q) (suc k) ∙ ap (λ n. plus n (get_or (product p q) k 0)) (get_or-scaled a q (suc k))

-- the higher part of a polynomial has a degree one lower
pub higher_degree : (n a : ℕ) (p : List ℕ) → IsBelowDegree (suc n) (a ∷ p) → IsBelowDegree n p
higher_degree n a p degree k h = degree (suc k) (omega (arith, h))

-- a polynomial of no degree is 0 everywhere, and so are its products
pub value_at-none : (p : List ℕ) (x : ℕ) → IsBelowDegree 0 p → value_at p x ≡ 0
value_at-none [] x none = refl
value_at-none (a ∷ p) x none =
    rw (none 0 (omega arith), value_at-none p x (λ k h. none (suc k) (omega arith)), times-zero x, plus-zero 0) refl

pub at-product-none : (p q : List ℕ) (k : ℕ) → IsBelowDegree 0 p → get_or (product p q) k 0 ≡ 0
at-product-none [] q k none = refl
at-product-none (a ∷ p) q zero none = at-product-zero a p q ∙ rw (none 0 (omega arith)) (zero-times _)
at-product-none (a ∷ p) q (suc k) none =
    at-product-suc a p q k
    ∙ rw (none 0 (omega arith), at-product-none p q k (λ j h. none (suc j) (omega arith)), zero-times (get_or q (suc k) 0), plus-zero 0) refl

-- ---- the coefficients of the product of a polynomial and a list of moments

-- no point is 0
abbrev pub AreNonzero : List ℕ → Type 0
AreNonzero [] = Unit {0}
AreNonzero (x ∷ xs) = (x ≢ 0) × AreNonzero xs

-- the inverse of x takes one factor x away
cancelled : (x q v : ℕ) → IsElement x → x ≢ 0 → times (times x q) (times (inverse x) v) ≡ times q v
cancelled x q v x_in ne =
    rw (times_assoc x q (times (inverse x) v), times_left_comm q (inverse x) v, ← times_assoc x (inverse x) (times q v), times-inverse x x_in ne)
    (one-times (times q v) (times-lt q v))

-- x^(k + 1) (a + v / x)
pub turned-suc : (k a : ℕ) (p : List ℕ) (x : ℕ) → IsElement x → x ≢ 0 → turned (suc k) (a ∷ p) x ≡ plus (times a (power x (suc k))) (turned k p x)
turned-suc k a p x x_in ne =
    let v : ℕ = value_at p (inverse x) in
    times-plus (power x (suc k)) a (times (inverse x) v)
    ∙ ap₂ (λ u w. plus u w) (times_comm (power x (suc k)) a)
    (ap (λ w. times w (times (inverse x) v)) (power-suc x k) ∙ cancelled x (power x k) v x_in ne)

-- y x (a + v / x) with a factor, where v has the power below
pub turned_term : (y x a v q r : ℕ) → IsElement x → x ≢ 0
    → times (times y (times (times x q) (plus a (times (inverse x) v)))) r
    ≡ plus (times a (times y (times (times x q) r))) (times (times y (times q v)) r)
turned_term y x a v q r x_in ne =
    rw (
      times-plus (times x q) a (times (inverse x) v),
      cancelled x q v x_in ne,
      times-plus y (times (times x q) a) (times q v),
      plus-times (times y (times (times x q) a)) (times y (times q v)) r,
      times_assoc y (times (times x q) a) r,
      times_assoc (times x q) a r,
      times_left_comm (times x q) a r,
      times_left_comm y a (times (times x q) r),
    )
    refl

pub moment-turned-suc : (k i a : ℕ) (p ys xs : List ℕ) → Elements xs → AreNonzero xs
    → moment (weighed (turned (suc k) (a ∷ p)) ys xs) xs i
    ≡ plus (times a (moment ys xs (suc k + i))) (moment (weighed (turned k p) ys xs) xs i)
moment-turned-suc k i a p [] xs xs_in nonzero = sym (rw (times-zero a) (plus-zero 0))
moment-turned-suc k i a p (y ∷ ys) [] xs_in nonzero = sym (rw (times-zero a) (plus-zero 0))
moment-turned-suc k i a p (y ∷ ys) (x ∷ xs) xs_in nonzero =
    rw (
      power-add x (suc k) i,
      power-suc x k,
      turned_term y x a (value_at p (inverse x)) (power x k) (power x i) xs_in.0 nonzero.0,
      moment-turned-suc k i a p ys xs xs_in.1 nonzero.1,
      times-plus a (times y (times (times x (power x k)) (power x i))) (moment ys xs (suc k + i)),
    )
    (plus_exchange _ _ _ _)

-- a polynomial of degree 0 multiplies the moments by its constant term
pub moment-turned-zero : (i a : ℕ) (p ys xs : List ℕ) → IsElement a → IsBelowDegree 0 p
    → moment (weighed (turned 0 (a ∷ p)) ys xs) xs i ≡ times a (moment ys xs i)
moment-turned-zero i a p [] xs a_in none = sym (times-zero a)
moment-turned-zero i a p (y ∷ ys) [] a_in none = sym (times-zero a)
moment-turned-zero i a p (y ∷ ys) (x ∷ xs) a_in none =
    rw (
      power-zero x,
      value_at-none p (inverse x) none,
      times-zero (inverse x),
      plus-zero a,
      one-times a a_in,
      moment-turned-zero i a p ys xs a_in none,
      times-plus a (times y (power x i)) (moment ys xs i),
      times_comm y a,
      times_assoc a y (power x i),
    )
    refl

-- coefficient k + i of the product of a polynomial of degree at most k and the moments
pub at-product-moments : (p q ys xs : List ℕ) (k i n : ℕ) → Elements xs → AreNonzero xs → Elements p → IsBelowDegree (suc k) p → n ≡ k + i
    → ((j : ℕ) → j ≤ n → get_or q j 0 ≡ moment ys xs j)
    → get_or (product p q) n 0 ≡ moment (weighed (turned k p) ys xs) xs i
at-product-moments [] q ys xs k i n xs_in nonzero p_in degree sum moments =
    sym (weighed-zero (turned k []) (λ x. times-zero (power x k)) ys xs i)
at-product-moments (a ∷ p) q ys xs zero i zero xs_in nonzero p_in degree sum moments =
    let none : IsBelowDegree 0 p = higher_degree 0 a p degree in
    let same : 0 ≡ i = omega (arith, sum) in
    at-product-zero a p q ∙ ap (times a) (moments 0 (omega arith) ∙ ap (moment ys xs) same)
    ∙ sym (moment-turned-zero i a p ys xs p_in.0 none)
at-product-moments (a ∷ p) q ys xs zero i (suc n) xs_in nonzero p_in degree sum moments =
    let none : IsBelowDegree 0 p = higher_degree 0 a p degree in
    let same : suc n ≡ i = omega (arith, sum) in
    at-product-suc a p q n ∙ rw (at-product-none p q n none, plus-zero (times a (get_or q (suc n) 0))) refl
    ∙ ap (times a) (moments (suc n) (omega arith) ∙ ap (moment ys xs) same)
    ∙ sym (moment-turned-zero i a p ys xs p_in.0 none)
at-product-moments (a ∷ p) q ys xs (suc k) i zero xs_in nonzero p_in degree sum moments = absurd (omega (arith, sum))
at-product-moments (a ∷ p) q ys xs (suc k) i (suc n) xs_in nonzero p_in degree sum moments =
    at-product-suc a p q n
    ∙ rw (
      moments (suc n) (omega arith),
      sum,
      at-product-moments p q ys xs k i n xs_in nonzero p_in.1 (higher_degree (suc k) a p degree) (omega (arith, sum)) (λ j h. moments j (omega (arith, h))),
    )
    (sym (moment-turned-suc k i a p ys xs xs_in nonzero))

-- ---- the law

pub points_nonzero : (n : ℕ) → AreNonzero (points n)
points_nonzero zero = tt
points_nonzero (suc n) = (alpha-ne-zero n, points_nonzero n)

pub at-points : (n s : ℕ) → s < n → get_or (points n) s 0 ≡ power alpha (n - 1 - s)
at-points zero s h = absurd (omega (arith, h))
at-points (suc n) zero h = ap (power alpha) (omega arith)
at-points (suc n) (suc s) h = at-points n s (omega (arith, h)) ∙ ap (power alpha) (omega arith)

-- where a weighed value is 0 and the value isn't, the factor is
pub factor_vanishes : (f : ℕ → ℕ) → ((x : ℕ) → IsElement (f x)) → (ys xs : List ℕ) (s : ℕ) → Elements ys → AreZero (weighed f ys xs)
    → s < length xs → get_or ys s 0 ≢ 0 → f (get_or xs s 0) ≡ 0
factor_vanishes f f_in [] xs s ys_in zeros within ne = absurd (ne refl)
factor_vanishes f f_in (y ∷ ys) [] s ys_in zeros within ne = absurd (omega (arith, within))
factor_vanishes f f_in (y ∷ ys) (x ∷ xs) zero ys_in zeros within ne =
    ⊎_elim (λ e. absurd (ne e)) (λ e. e) (no_zero_divisors y (f x) ys_in.0 (f_in x) zeros.0)
factor_vanishes f f_in (y ∷ ys) (x ∷ xs) (suc s) ys_in zeros within ne =
    factor_vanishes f f_in ys xs s ys_in.1 zeros.1 (omega (arith, within)) ne

-- what differs in the received and the near word
abbrev pub errors_of : List ℕ → List ℕ → List ℕ
errors_of received near = sum_of received near

-- the errors' weighted sums are those of the received word
pub weighted_sum-errors_of : (t : ℕ) (received near : List ℕ) → IsNear t received near → (i : ℕ) → i < 2 * t
    → weighted_sum (errors_of received near) i ≡ weighted_sum received i
weighted_sum-errors_of t received near near_in i h =
    weighted_sum-sum_of received near (sym near_in.same_length) i ∙ rw (near_in.code_word.sums i h) (plus-zero _)

pub weight-errors_of : (t : ℕ) (received near : List ℕ) → IsNear t received near → weight (errors_of received near) ≤ t
weight-errors_of t received near near_in =
    omega (arith, differences-weight received near (sym near_in.same_length), near_in.close)

pub length-errors_of : (t : ℕ) (received near : List ℕ) → IsNear t received near → length (errors_of received near) ≡ length received
length-errors_of t received near near_in = length-sum_of received near (sym near_in.same_length)

pub Elements-errors_of : (t : ℕ) (received near : List ℕ) → All IsElement received → IsNear t received near → Elements (errors_of received near)
Elements-errors_of t received near received_in near_in =
    Elements-sum_of received near (elements_of received received_in) (elements_of near near_in.code_word.elements)

pub value_at-lt : (p : List ℕ) (x : ℕ) → Elements p → IsElement (value_at p x)
value_at-lt [] x p_in = omega arith
value_at-lt (a ∷ p) x p_in = plus-lt a (times x (value_at p x)) p_in.0 (times-lt x (value_at p x))

pub power-ne-zero : (n t : ℕ) → power (power alpha n) t ≢ 0
power-ne-zero n t e = alpha-ne-zero (n * t) (power-mul alpha n t ∙ e)

-- the product x^t p(1/x) is 0 at a power of alpha only where p(1/x) is
pub turned_vanishes : (t n : ℕ) (p : List ℕ) → Elements p → turned t p (power alpha n) ≡ 0 → value_at p (inverse (power alpha n)) ≡ 0
turned_vanishes t n p p_in e =
    ⊎_elim (λ z. absurd (power-ne-zero n t z)) (λ z. z)
    (no_zero_divisors (power (power alpha n) t) (value_at p (inverse (power alpha n))) (power-lt (power alpha n) t) (value_at-lt p (inverse (power alpha n)) p_in) e)

-- errors with these sums, each times x^t times the locator at 1/x for its point x, are 0
pub turned_pattern : (t : ℕ) (sums locator evaluator errors : List ℕ) → length errors ≤ 255 → Elements errors → weight errors ≤ t
    → AreSums t errors sums → IsKeyPair t sums locator evaluator
    → AreZero (weighed (turned t locator) errors (points (length errors)))
turned_pattern t sums locator evaluator errors short errors_in few are_sums pair =
    let xs : List ℕ = points (length errors) in
    vanishing t (weighed (turned t locator) errors xs) xs
    (length-weighed (turned t locator) errors xs) (Elements-weighed (turned t locator) errors xs)
    (Elements-points (length errors)) (points_distinct (length errors) short)
    (omega (arith, weight-weighed (turned t locator) errors xs, few))
    (λ i h. sym (at-product-moments locator sums errors xs t i (t + i) (Elements-points (length errors)) (points_nonzero (length errors))
    (elements_of locator pair.elements) (λ k above. pair.locator_degree k (omega (arith, above))) refl
    (λ j below. are_sums j (omega (arith, below, h)) ∙ weighted_sum-moment errors j))
    ∙ pair.agrees (t + i) (omega (arith, h)) ∙ pair.evaluator_degree (t + i) (omega arith))

-- what differs in the received and the near word vanishes likewise
pub turned_errors : (t : ℕ) (received near sums locator evaluator : List ℕ)
    → All IsElement received → IsNear t received near → AreSums t received sums → IsKeyPair t sums locator evaluator
    → AreZero (weighed (turned t locator) (errors_of received near) (points (length received)))
turned_errors t received near sums locator evaluator received_in near_in are_sums pair =
    let long : length (errors_of received near) ≡ length received = length-errors_of t received near near_in in
    subst (λ n. AreZero (weighed (turned t locator) (errors_of received near) (points n))) long
    (turned_pattern t sums locator evaluator (errors_of received near)
    (omega (arith, long, near_in.code_word.short, near_in.same_length))
    (Elements-errors_of t received near received_in near_in) (weight-errors_of t received near near_in)
    (λ i h. are_sums i h ∙ sym (weighted_sum-errors_of t received near near_in i h)) pair)

pub locator_finds_errors : LocatorFindsErrors
locator_finds_errors t received near sums locator evaluator received_in near_in are_sums pair s within differ =
    let found : turned t locator (get_or (points (length received)) s 0) ≡ 0 =
    factor_vanishes (turned t locator) (λ x. times-lt (power x t) (value_at locator (inverse x)))
    (errors_of received near) (points (length received)) s (Elements-errors_of t received near received_in near_in)
    (turned_errors t received near sums locator evaluator received_in near_in are_sums pair)
    (omega (arith, within, length-points (length received)))
    (λ e. differ (same_from_plus _ _ (sym (at-sum_of received near s) ∙ e))) in
    turned_vanishes t (length received - 1 - s) locator (elements_of locator pair.elements)
    (subst (λ x. turned t locator x ≡ 0) (at-points (length received) s within) found)
