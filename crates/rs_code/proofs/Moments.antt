-- Sums of the form y_1 x_1^i + y_2 x_2^i + .. : where enough of them are 0, all the y are.
use Rattle.std.proofs.Common.{ap₂, ◌≡◌, ◌≢◌, ℕ, zero, suc, ◌<◌, ◌≤◌, List, [], ◌∷◌, length, refl, sym, ◌∙◌, ap, arith, subst, ⊎_elim}
use Rattle.gf256.specs.Field.{IsElement, plus, times, power}
use Rattle.gf256.proofs.FieldLaws.{plus_exchange, plus-zero, zero-plus, plus_self, same_from_plus, plus-lt, times-lt, times_assoc, times_left_comm, times-zero, zero-times, times-one, one-times, times-plus, plus-times, power-zero, power-suc, no_zero_divisors}
use Rattle.rs_code.specs.Polynomial.{value_at}
use Rattle.rs_code.specs.inside.Errors.{weight, moment, IsApart, AreDistinct}

-- each value times a function of its point
abbrev pub weighed : (ℕ → ℕ) → List ℕ → List ℕ → List ℕ
weighed f [] xs = []
weighed f (y ∷ ys) [] = []
weighed f (y ∷ ys) (x ∷ xs) = times y (f x) ∷ weighed f ys xs

-- one value weighed by c + x v, at one point
pub weighed_term : (y c x v p : ℕ) → times (times y (plus c (times x v))) p ≡ plus (times c (times y p)) (times (times y v) (times x p))
weighed_term y c x v p =
    simp (times-plus, plus-times, times_assoc) (rw (times_left_comm y c p, times_left_comm v x p) refl)

pub weighed-cons : (c : ℕ) (v ys xs : List ℕ) (i : ℕ)
    → moment (weighed (value_at (c ∷ v)) ys xs) xs i ≡ plus (times c (moment ys xs i)) (moment (weighed (value_at v) ys xs) xs (suc i))
weighed-cons c v [] xs i = sym (rw (times-zero c, plus-zero 0) refl)
weighed-cons c v (y ∷ ys) [] i = sym (rw (times-zero c, plus-zero 0) refl)
weighed-cons c v (y ∷ ys) (x ∷ xs) i =
    rw (power-suc x i, weighed-cons c v ys xs i, weighed_term y c x (value_at v x) (power x i), times-plus c (times y (power x i)) (moment ys xs i))
    (plus_exchange _ _ _ _)

-- weighed by a function that is 0, every moment is 0
pub weighed-zero : (f : ℕ → ℕ) → ((x : ℕ) → f x ≡ 0) → (ys xs : List ℕ) (i : ℕ) → moment (weighed f ys xs) xs i ≡ 0
weighed-zero f none [] xs i = refl
weighed-zero f none (y ∷ ys) [] i = refl
weighed-zero f none (y ∷ ys) (x ∷ xs) i =
    rw (none x, times-zero y, zero-times (power x i), weighed-zero f none ys xs i, plus-zero 0) refl

-- ---- lists of elements, of zeros, of points that are apart

abbrev pub Elements : List ℕ → Type 0
Elements [] = Unit {0}
Elements (y ∷ ys) = IsElement y × Elements ys

abbrev pub AreZero : List ℕ → Type 0
AreZero [] = Unit {0}
AreZero (y ∷ ys) = (y ≡ 0) × AreZero ys

pub moment-AreZero : (ys xs : List ℕ) (i : ℕ) → AreZero ys → moment ys xs i ≡ 0
moment-AreZero [] xs i h = refl
moment-AreZero (y ∷ ys) [] i h = refl
moment-AreZero (y ∷ ys) (x ∷ xs) i h = rw (h.0, zero-times (power x i), moment-AreZero ys xs i h.1, plus-zero 0) refl

-- x + z as the value at z of a polynomial
pub linear_value : (x z : ℕ) → IsElement z → value_at (x ∷ 1 ∷ []) z ≡ plus x z
linear_value x z z_in = rw (times-zero z, plus-zero 1, times-one z z_in) refl

-- what is 0 after it is weighed by x + z at each point z was 0 before, where no point is x
pub zero_unweighed : (x : ℕ) (ys xs : List ℕ) → length ys ≤ length xs → IsElement x → Elements ys → Elements xs → IsApart x xs
    → AreZero (weighed (value_at (x ∷ 1 ∷ [])) ys xs) → AreZero ys
zero_unweighed x [] xs fits x_in ys_in xs_in apart zeros = tt
zero_unweighed x (y ∷ ys) [] fits x_in ys_in xs_in apart zeros = absurd (omega (arith, fits))
zero_unweighed x (y ∷ ys) (z ∷ zs) fits x_in ys_in xs_in apart zeros =
    let product_zero : times y (plus x z) ≡ 0 = subst (λ n. times y n ≡ 0) (linear_value x z xs_in.0) zeros.0 in (
      ⊎_elim (λ e. e) (λ e. absurd (apart.0 (sym (same_from_plus x z e))))
          (no_zero_divisors y (plus x z) ys_in.0 (plus-lt x z x_in xs_in.0) product_zero),
      zero_unweighed x ys zs (omega (arith, fits)) x_in ys_in.1 xs_in.1 apart.1 zeros.1,
    )

-- ---- the number of values that are not 0

pub weight-cons-le_suc : (y : ℕ) (ys : List ℕ) → weight (y ∷ ys) ≤ suc (weight ys)
weight-cons-le_suc zero ys = omega arith
weight-cons-le_suc (suc n) ys = omega arith

pub weight-cons_nonzero : (y : ℕ) (ys : List ℕ) → y ≢ 0 → weight (y ∷ ys) ≡ suc (weight ys)
weight-cons_nonzero zero ys ne = absurd (ne refl)
weight-cons_nonzero (suc n) ys ne = refl

pub weight-weighed : (f : ℕ → ℕ) (ys xs : List ℕ) → weight (weighed f ys xs) ≤ weight ys
weight-weighed f [] xs = omega arith
weight-weighed f (y ∷ ys) [] = omega arith
weight-weighed f (zero ∷ ys) (x ∷ xs) = rw (zero-times (f x)) (weight-weighed f ys xs)
weight-weighed f (suc n ∷ ys) (x ∷ xs) =
    omega (arith, weight-cons-le_suc (times (suc n) (f x)) (weighed f ys xs), weight-weighed f ys xs)

pub Elements-weighed : (f : ℕ → ℕ) (ys xs : List ℕ) → Elements (weighed f ys xs)
Elements-weighed f [] xs = tt
Elements-weighed f (y ∷ ys) [] = tt
Elements-weighed f (y ∷ ys) (x ∷ xs) = (times-lt y (f x), Elements-weighed f ys xs)

pub length-weighed : (f : ℕ → ℕ) (ys xs : List ℕ) → length (weighed f ys xs) ≤ length xs
length-weighed f [] xs = omega arith
length-weighed f (y ∷ ys) [] = omega arith
length-weighed f (y ∷ ys) (x ∷ xs) = omega (arith, length-weighed f ys xs)

-- where two moments in a row are 0, so is the one of the values behind the first, weighed by x + z
pub weighed_vanishes : (y x : ℕ) (ys xs : List ℕ) (i : ℕ) → moment (y ∷ ys) (x ∷ xs) i ≡ 0 → moment (y ∷ ys) (x ∷ xs) (suc i) ≡ 0
    → moment (weighed (value_at (x ∷ 1 ∷ [])) ys xs) xs i ≡ 0
weighed_vanishes y x ys xs i here next =
    let at_i : moment ys xs i ≡ times y (power x i) = sym (same_from_plus _ _ here) in
    let at_next : moment ys xs (suc i) ≡ times y (times x (power x i)) =
    sym (same_from_plus _ _ next) ∙ ap (times y) (power-suc x i) in
    let rest : moment (weighed (value_at (1 ∷ [])) ys xs) xs (suc i) ≡ times y (times x (power x i)) =
    weighed-cons 1 [] ys xs (suc i)
    ∙ ap₂ (λ u v. plus u v)
    (ap (times 1) at_next ∙ one-times (times y (times x (power x i))) (times-lt y (times x (power x i))))
    (weighed-zero (value_at []) (λ z. refl) ys xs (suc (suc i)))
    ∙ plus-zero (times y (times x (power x i))) in
    weighed-cons x (1 ∷ []) ys xs i
    ∙ ap₂ (λ u v. plus u v) (ap (times x) at_i ∙ times_left_comm x y (power x i)) rest
    ∙ plus_self (times y (times x (power x i)))

-- values at distinct points, of which at most r are not 0, are all 0 where their moments below r are 0
abbrev pub Vanish : ℕ → Type 0
Vanish r = (ys xs : List ℕ) → length ys ≤ length xs → Elements ys → Elements xs → AreDistinct xs → weight ys ≤ r
    → ((i : ℕ) → i < r → moment ys xs i ≡ 0) → AreZero ys

vanishing_none : Vanish 0
vanishing_none [] xs fits ys_in xs_in distinct few moments = tt
vanishing_none (zero ∷ ys) [] fits ys_in xs_in distinct few moments = absurd (omega (arith, fits))
vanishing_none (zero ∷ ys) (x ∷ xs) fits ys_in xs_in distinct few moments =
    (refl, vanishing_none ys xs (omega (arith, fits)) ys_in.1 xs_in.1 distinct.1 few (λ i h. absurd (omega (arith, h))))
vanishing_none (suc n ∷ ys) xs fits ys_in xs_in distinct few moments = absurd (omega (arith, few))

vanishing_more : (r : ℕ) → Vanish r → Vanish (suc r)
vanishing_more r before [] xs fits ys_in xs_in distinct few moments = tt
vanishing_more r before (y ∷ ys) [] fits ys_in xs_in distinct few moments = absurd (omega (arith, fits))
vanishing_more r before (zero ∷ ys) (x ∷ xs) fits ys_in xs_in distinct few moments = (
  refl,
  vanishing_more r before ys xs (omega (arith, fits)) ys_in.1 xs_in.1 distinct.1 few
      (λ i h. sym (rw (zero-times (power x i), zero-plus (moment ys xs i)) refl) ∙ moments i h),
)
vanishing_more r before (suc n ∷ ys) (x ∷ xs) fits ys_in xs_in distinct few moments =
    let others : List ℕ = weighed (value_at (x ∷ 1 ∷ [])) ys xs in
    let others_zero : AreZero others = before others xs (length-weighed (value_at (x ∷ 1 ∷ [])) ys xs) (Elements-weighed (value_at (x ∷ 1 ∷ [])) ys xs) xs_in.1 distinct.1
    (omega (arith, few, weight-weighed (value_at (x ∷ 1 ∷ [])) ys xs))
    (λ i h. weighed_vanishes (suc n) x ys xs i (moments i (omega (arith, h))) (moments (suc i) (omega (arith, h)))) in
    let rest_zero : AreZero ys = zero_unweighed x ys xs (omega (arith, fits)) xs_in.0 ys_in.1 xs_in.1 distinct.0 others_zero in (
      sym (rw (power-zero x, times-one (suc n) ys_in.0, moment-AreZero ys xs 0 rest_zero, plus-zero (suc n)) refl) ∙ moments 0 (omega arith),
      rest_zero,
    )

pub vanishing : (r : ℕ) → Vanish r
vanishing zero = vanishing_none
vanishing (suc r) = vanishing_more r (vanishing r)
