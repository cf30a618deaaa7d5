-- A polynomial that is not 0 has at most as many roots as its degree says, and errors at roots alone.
use Rattle.std.proofs.Common.{◌+◌, ap₂, ◌≡◌, ◌≢◌, ℕ, zero, suc, ◌<◌, ◌≤◌, List, [], ◌∷◌, ◌++◌, length, take, nat_eq, true, false, refl, sym, ◌∙◌, ap, arith, ⊎_elim, get_or, append-nil, length-append}
use Rattle.std.proofs.lemmas.List.{map-append}
use Rattle.std.proofs.lemmas.Bool.Decides.{eqb_tells}
use Rattle.std.proofs.lemmas.Bool.{cases_lt}
use Rattle.gf256.specs.Field.{IsElement, plus, times, power, alpha, inverse}
use Rattle.gf256.proofs.FieldLaws.{plus_exchange, plus_comm, plus_assoc, times_comm, one-times, power-zero, power-one, power-suc, plus-zero, zero-plus, plus_self, same_from_plus, plus-lt, times_left_comm, times-zero, times-plus, plus-times, power-lt, no_zero_divisors, alpha_distinct}
use Rattle.rs_code.specs.Polynomial.{value_at, IsBelowDegree}
use Rattle.rs_code.specs.inside.Errors.{weight, turned, powers, HasRoots, root_exponents, IsRooted, IsApart, AreDistinct, AreBelow}
use Rattle.rs_code.proofs.Moments.{weighed, Elements, AreZero}
use Rattle.rs_code.proofs.Words.{points}
use Rattle.rs_code.proofs.Locators.{value_at-lt, value_at-none, higher_degree, turned-suc}

-- ---- the number of roots

-- the quotient of p by x - a, with remainder p(a)
abbrev pub quotient : ℕ → List ℕ → List ℕ
quotient a [] = []
quotient a (c ∷ []) = []
quotient a (c ∷ d ∷ p) = value_at (d ∷ p) a ∷ quotient a (d ∷ p)

-- x v + a w = (x + a) (w + x u) where v + w = (x + a) u
quotient_term : (c x a v w u : ℕ) → plus v w ≡ times (plus x a) u
    → plus (plus c (times x v)) (plus c (times a w)) ≡ times (plus x a) (plus w (times x u))
quotient_term c x a v w u e =
    let left : plus (plus c (times x v)) (plus c (times a w)) ≡ plus (times x v) (times a w) =
    plus_exchange c (times x v) c (times a w)
    ∙ ap (λ n. plus n (plus (times x v) (times a w))) (plus_self c) ∙ zero-plus (plus (times x v) (times a w)) in
    let right : times (plus x a) (plus w (times x u)) ≡ plus (times x v) (times a w) =
    rw (
      times-plus (plus x a) w (times x u),
      times_left_comm (plus x a) x u,
      ← e,
      plus-times x a w,
      times-plus x v w,
      plus_comm (times x v) (times x w),
      plus_exchange (times x w) (times a w) (times x w) (times x v),
      plus_self (times x w),
      zero-plus (plus (times a w) (times x v)),
    )
    (plus_comm (times a w) (times x v)) in
    left ∙ sym right

pub value_at-quotient : (a x : ℕ) (p : List ℕ) → plus (value_at p x) (value_at p a) ≡ times (plus x a) (value_at (quotient a p) x)
value_at-quotient a x [] = plus-zero 0 ∙ sym (times-zero (plus x a))
value_at-quotient a x (c ∷ []) = rw (times-zero x, times-zero a, plus-zero c, times-zero (plus x a)) (plus_self c)
value_at-quotient a x (c ∷ d ∷ p) =
    quotient_term c x a (value_at (d ∷ p) x) (value_at (d ∷ p) a) (value_at (quotient a (d ∷ p)) x) (value_at-quotient a x (d ∷ p))

pub length-quotient : (a c : ℕ) (p : List ℕ) → length (quotient a (c ∷ p)) ≡ length p
length-quotient a c [] = refl
length-quotient a c (d ∷ p) = ap suc (length-quotient a d p)

pub Elements-quotient : (a : ℕ) (p : List ℕ) → Elements p → Elements (quotient a p)
Elements-quotient a [] p_in = tt
Elements-quotient a (c ∷ []) p_in = tt
Elements-quotient a (c ∷ d ∷ p) p_in = (value_at-lt (d ∷ p) a p_in.1, Elements-quotient a (d ∷ p) p_in.1)

-- a further root of p is a root of the quotient
pub root_of_quotient : (a x : ℕ) (p : List ℕ) → Elements p → IsElement a → IsElement x → value_at p a ≡ 0 → value_at p x ≡ 0 → x ≢ a
    → value_at (quotient a p) x ≡ 0
root_of_quotient a x p p_in a_in x_in at_a at_x ne =
    ⊎_elim (λ e. absurd (ne (same_from_plus x a e))) (λ e. e)
    (no_zero_divisors (plus x a) (value_at (quotient a p) x) (plus-lt x a x_in a_in) (value_at-lt (quotient a p) x (Elements-quotient a p p_in))
    (sym (value_at-quotient a x p) ∙ rw (at_a, at_x) (plus-zero 0)))

pub roots_of_quotient : (a : ℕ) (p xs : List ℕ) → Elements p → IsElement a → Elements xs → value_at p a ≡ 0 → HasRoots p xs → IsApart a xs
    → HasRoots (quotient a p) xs
roots_of_quotient a p [] p_in a_in xs_in at_a roots apart = tt
roots_of_quotient a p (x ∷ xs) p_in a_in xs_in at_a roots apart = (
  root_of_quotient a x p p_in a_in xs_in.0 at_a roots.0 apart.0,
  roots_of_quotient a p xs p_in a_in xs_in.1 at_a roots.1 apart.1,
)

-- with a root and a quotient of zeros, p is 0
pub zero_from_quotient : (a : ℕ) (p : List ℕ) → value_at p a ≡ 0 → AreZero (quotient a p) → AreZero p
zero_from_quotient a [] at_a zeros = tt
zero_from_quotient a (c ∷ []) at_a zeros = (sym (rw (times-zero a) (plus-zero c)) ∙ at_a, tt)
zero_from_quotient a (c ∷ d ∷ p) at_a zeros = (
  sym (rw (zeros.0, times-zero a) (plus-zero c)) ∙ at_a,
  zero_from_quotient a (d ∷ p) zeros.0 zeros.1,
)

-- a polynomial with as many distinct roots as coefficients is 0
pub zero_from_roots : (xs p : List ℕ) → Elements p → Elements xs → AreDistinct xs → HasRoots p xs → length p ≤ length xs → AreZero p
zero_from_roots [] [] p_in xs_in distinct roots many = tt
zero_from_roots [] (c ∷ p) p_in xs_in distinct roots many = absurd (omega (arith, many))
zero_from_roots (a ∷ xs) [] p_in xs_in distinct roots many = tt
zero_from_roots (a ∷ xs) (c ∷ p) p_in xs_in distinct roots many =
    zero_from_quotient a (c ∷ p) roots.0
    (zero_from_roots xs (quotient a (c ∷ p)) (Elements-quotient a (c ∷ p) p_in) xs_in.1 distinct.1
    (roots_of_quotient a (c ∷ p) xs p_in xs_in.0 xs_in.1 roots.0 roots.1 distinct.0)
    (omega (arith, many, length-quotient a c p)))

-- ---- the coefficients below a degree

pub value_at-take : (n : ℕ) (p : List ℕ) (x : ℕ) → IsBelowDegree n p → value_at (take n p) x ≡ value_at p x
value_at-take zero [] x degree = refl
value_at-take zero (a ∷ p) x degree =
    sym (rw (degree 0 (omega arith), ← value_at-take 0 p x (λ k h. degree (suc k) (omega arith)), times-zero x) (plus-zero 0))
value_at-take (suc n) [] x degree = refl
value_at-take (suc n) (a ∷ p) x degree =
    ap (λ v. plus a (times x v)) (value_at-take n p x (λ k h. degree (suc k) (omega (arith, h))))

pub HasRoots-take : (n : ℕ) (p xs : List ℕ) → IsBelowDegree n p → HasRoots p xs → HasRoots (take n p) xs
HasRoots-take n p [] degree roots = tt
HasRoots-take n p (x ∷ xs) degree roots = (value_at-take n p x degree ∙ roots.0, HasRoots-take n p xs degree roots.1)

pub Elements-take : (n : ℕ) (p : List ℕ) → Elements p → Elements (take n p)
Elements-take zero p p_in = tt
Elements-take (suc n) [] p_in = tt
Elements-take (suc n) (a ∷ p) p_in = (p_in.0, Elements-take n p p_in.1)

pub length-take-under : (n : ℕ) (p : List ℕ) → length (take n p) ≤ n
length-take-under zero p = omega arith
length-take-under (suc n) [] = omega arith
length-take-under (suc n) (a ∷ p) = omega (arith, length-take-under n p)

pub at_zeros : (p : List ℕ) (k : ℕ) → AreZero p → get_or p k 0 ≡ 0
at_zeros [] k zeros = refl
at_zeros (a ∷ p) zero zeros = zeros.0
at_zeros (a ∷ p) (suc k) zeros = at_zeros p k zeros.1

pub zeros_of_take : (n : ℕ) (p : List ℕ) (k : ℕ) → IsBelowDegree n p → AreZero (take n p) → get_or p k 0 ≡ 0
zeros_of_take zero p k degree zeros = degree k (omega arith)
zeros_of_take (suc n) [] k degree zeros = refl
zeros_of_take (suc n) (a ∷ p) zero degree zeros = zeros.0
zeros_of_take (suc n) (a ∷ p) (suc k) degree zeros = zeros_of_take n p k (λ j h. degree (suc j) (omega (arith, h))) zeros.1

-- a polynomial of degree at most t with a coefficient that is not 0 has at most t distinct roots
pub few_roots : (t k : ℕ) (p xs : List ℕ) → Elements p → IsBelowDegree (suc t) p → get_or p k 0 ≢ 0
    → Elements xs → AreDistinct xs → HasRoots p xs → length xs ≤ t
few_roots t k p xs p_in degree ne xs_in distinct roots =
    ⊎_elim
    (λ many. absurd (ne (zeros_of_take (suc t) p k degree
    (zero_from_roots xs (take (suc t) p) (Elements-take (suc t) p p_in) xs_in distinct (HasRoots-take (suc t) p xs degree roots)
    (omega (arith, many, length-take-under (suc t) p))))))
    (λ few. few)
    (cases_lt t (length xs))

-- ---- the exponents of the roots

pub AreBelow-append : (n : ℕ) (ks js : List ℕ) → AreBelow n ks → AreBelow n js → AreBelow n (ks ++ js)
AreBelow-append n [] js h j = j
AreBelow-append n (k ∷ ks) js h j = (h.0, AreBelow-append n ks js h.1 j)

pub AreBelow-more : (n : ℕ) (ks : List ℕ) → AreBelow n ks → AreBelow (suc n) ks
AreBelow-more n [] h = tt
AreBelow-more n (k ∷ ks) h = (omega (arith, h.0), AreBelow-more n ks h.1)

pub HasRoots-append : (p xs ys : List ℕ) → HasRoots p xs → HasRoots p ys → HasRoots p (xs ++ ys)
HasRoots-append p [] ys h k = k
HasRoots-append p (x ∷ xs) ys h k = (h.0, HasRoots-append p xs ys h.1 k)

pub Elements-powers : (ks : List ℕ) → Elements (powers ks)
Elements-powers [] = tt
Elements-powers (k ∷ ks) = (power-lt alpha k, Elements-powers ks)

-- the exponent n is added to smaller ones
pub IsApart-push : (x y : ℕ) (xs : List ℕ) → IsApart x xs → y ≢ x → IsApart x (xs ++ y ∷ [])
IsApart-push x y [] apart ne = (ne, tt)
IsApart-push x y (z ∷ zs) apart ne = (apart.0, IsApart-push x y zs apart.1 ne)

pub powers_distinct-push : (n : ℕ) (ks : List ℕ) → n < 255 → AreBelow n ks → AreDistinct (powers ks) → AreDistinct (powers ks ++ power alpha n ∷ [])
powers_distinct-push n [] within below distinct = (tt, tt)
powers_distinct-push n (k ∷ ks) within below distinct = (
  IsApart-push (power alpha k) (power alpha n) (powers ks) distinct.0 (λ e. alpha_distinct k n below.0 within (sym e)),
  powers_distinct-push n ks within below.1 distinct.1,
)

-- what holds of the exponents of the roots below n
pub record AreRootExponents (p : List ℕ) (n : ℕ) (ks : List ℕ) : Type 0 where
  pub below : AreBelow n ks
  pub roots : HasRoots p (powers ks)
  pub distinct : AreDistinct (powers ks)

pub root_exponents_hold : (p : List ℕ) (n : ℕ) → n ≤ 255 → AreRootExponents p n (root_exponents p n)
root_exponents_hold p zero within = record { below = tt; roots = tt; distinct = tt }
root_exponents_hold p (suc n) within =
    let before : AreRootExponents p n (root_exponents p n) = root_exponents_hold p n (omega (arith, within)) in
    ⊎_elim
    (λ (t : (nat_eq (value_at p (power alpha n)) 0 ≡ true) × (value_at p (power alpha n) ≡ 0)). rw t.0 (record {
      below = AreBelow-append (suc n) (root_exponents p n) (n ∷ []) (AreBelow-more n (root_exponents p n) before.below) (omega arith, tt);
      roots = rw (map-append (power alpha) (root_exponents p n) (n ∷ []))
          (HasRoots-append p (powers (root_exponents p n)) (power alpha n ∷ []) before.roots (t.1, tt));
      distinct = rw (map-append (power alpha) (root_exponents p n) (n ∷ []))
          (powers_distinct-push n (root_exponents p n) (omega (arith, within)) before.below before.distinct);
    }))
    (λ (t : (nat_eq (value_at p (power alpha n)) 0 ≡ false) × (value_at p (power alpha n) ≢ 0)). rw (t.0, append-nil (root_exponents p n)) (record
    { below = AreBelow-more n (root_exponents p n) before.below; roots = before.roots; distinct = before.distinct }))
    (eqb_tells (value_at p (power alpha n)) 0)

-- ---- errors at roots alone

pub weight-IsRooted : (p errors : List ℕ) → IsRooted p errors → weight errors ≤ length (root_exponents p (length errors))
weight-IsRooted p [] rooted = omega arith
weight-IsRooted p (zero ∷ rest) rooted =
    rw (length-append (root_exponents p (length rest)) _) (omega (arith, weight-IsRooted p rest rooted.1))
weight-IsRooted p (suc n ∷ rest) rooted =
    let root : value_at p (power alpha (length rest)) ≡ 0 = rooted.0 (λ e. cc) in
    rw (root, length-append (root_exponents p (length rest)) (length rest ∷ [])) (omega (arith, weight-IsRooted p rest rooted.1))

-- errors that are 0 once weighed by the polynomial sit at its roots
pub IsRooted-weighed : (p errors : List ℕ) → Elements p → Elements errors → AreZero (weighed (value_at p) errors (points (length errors))) → IsRooted p errors
IsRooted-weighed p [] p_in e_in zeros = tt
IsRooted-weighed p (symbol ∷ rest) p_in e_in zeros = (
  (λ ne. ⊎_elim (λ e. absurd (ne e)) (λ e. e)
      (no_zero_divisors symbol (value_at p (power alpha (length rest))) e_in.0 (value_at-lt p (power alpha (length rest)) p_in) zeros.0)),
  IsRooted-weighed p rest p_in e_in.1 zeros.1,
)

-- ---- coefficients in turned order

-- two polynomials with the same coefficients
pub value_at-same : (p q : List ℕ) (x : ℕ) → ((k : ℕ) → get_or p k 0 ≡ get_or q k 0) → value_at p x ≡ value_at q x
value_at-same [] q x same = sym (value_at-none q x (λ k h. sym (same k)))
value_at-same (a ∷ p) [] x same = value_at-none (a ∷ p) x (λ k h. same k)
value_at-same (a ∷ p) (b ∷ q) x same = ap₂ (λ u v. plus u (times x v)) (same 0) (value_at-same p q x (λ k. same (suc k)))

-- the coefficients from place k down to the constant term
abbrev pub reversal : ℕ → List ℕ → List ℕ
reversal zero p = get_or p 0 0 ∷ []
reversal (suc k) p = get_or p (suc k) 0 ∷ reversal k p

pub at-reversal : (k : ℕ) (p : List ℕ) (j i : ℕ) → j + i ≡ k → get_or (reversal k p) j 0 ≡ get_or p i 0
at-reversal zero p zero i sum = ap (λ n. get_or p n 0) (omega (arith, sum))
at-reversal zero p (suc j) i sum = absurd (omega (arith, sum))
at-reversal (suc k) p zero i sum = ap (λ n. get_or p n 0) (omega (arith, sum))
at-reversal (suc k) p (suc j) i sum = at-reversal k p j i (omega (arith, sum))

pub at-reversal_past : (k : ℕ) (p : List ℕ) (j : ℕ) → k < j → get_or (reversal k p) j 0 ≡ 0
at-reversal_past zero p zero past = absurd (omega (arith, past))
at-reversal_past zero p (suc j) past = refl
at-reversal_past (suc k) p zero past = absurd (omega (arith, past))
at-reversal_past (suc k) p (suc j) past = at-reversal_past k p j (omega (arith, past))

reversal-more : (k a : ℕ) (p : List ℕ) (x : ℕ) → IsElement x → IsElement a
    → value_at (reversal (suc k) (a ∷ p)) x ≡ plus (value_at (reversal k p) x) (times a (power x (suc k)))
reversal-more zero a p x x_in a_in =
    let first : ℕ = get_or p 0 0 in
    ap (λ v. plus first (times x (plus a v))) (times-zero x) ∙ ap (λ v. plus first (times x v)) (plus-zero a)
    ∙ ap₂ (λ u v. plus u v) (sym (ap (plus first) (times-zero x) ∙ plus-zero first))
    (times_comm x a ∙ ap (times a) (sym (power-one x x_in)))
reversal-more (suc k) a p x x_in a_in =
    let top : ℕ = get_or p (suc k) 0 in
    let v : ℕ = value_at (reversal k p) x in
    ap (λ u. plus top (times x u)) (reversal-more k a p x x_in a_in)
    ∙ ap (plus top) (times-plus x v (times a (power x (suc k))))
    ∙ sym (plus_assoc top (times x v) (times x (times a (power x (suc k)))))
    ∙ ap (plus (plus top (times x v))) (times_left_comm x a (power x (suc k)) ∙ ap (times a) (sym (power-suc x (suc k))))

reversal-none : (k x : ℕ) → value_at (reversal k []) x ≡ 0
reversal-none zero x = ap (plus 0) (times-zero x) ∙ plus-zero 0
reversal-none (suc k) x = ap (λ v. plus 0 (times x v)) (reversal-none k x) ∙ ap (plus 0) (times-zero x) ∙ plus-zero 0

pub value_at-reversal : (k : ℕ) (p : List ℕ) (x : ℕ) → IsElement x → x ≢ 0 → Elements p → IsBelowDegree (suc k) p
    → value_at (reversal k p) x ≡ turned k p x
value_at-reversal k [] x x_in ne p_in degree = reversal-none k x ∙ sym (times-zero (power x k))
value_at-reversal zero (a ∷ p) x x_in ne p_in degree =
    ap (plus a) (times-zero x) ∙ plus-zero a
    ∙ sym (ap₂ (λ u v. times u v) (power-zero x)
    (ap (λ v. plus a (times (inverse x) v)) (value_at-none p (inverse x) (higher_degree 0 a p degree)) ∙ ap (plus a) (times-zero (inverse x)) ∙ plus-zero a)
    ∙ one-times a p_in.0)
value_at-reversal (suc k) (a ∷ p) x x_in ne p_in degree =
    reversal-more k a p x x_in p_in.0
    ∙ ap (λ u. plus u (times a (power x (suc k)))) (value_at-reversal k p x x_in ne p_in.1 (higher_degree (suc k) a p degree))
    ∙ plus_comm (turned k p x) (times a (power x (suc k)))
    ∙ sym (turned-suc k a p x x_in ne)
