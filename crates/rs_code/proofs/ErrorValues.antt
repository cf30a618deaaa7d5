-- The value of an error is the evaluator at the inverse of its point, divided by the odd part of the
-- locator there (Forney).
use Rattle.std.proofs.Common.{◌≡◌, ◌≢◌, ℕ, zero, suc, Bool, true, false, ◌-◌, ◌<◌, ◌≤◌, ◌⊎◌, inl, inr, List, [], ◌∷◌, length, refl, sym, ◌∙◌, ap, ap₂, arith, subst, ⊎_elim, get_or}
use Rattle.std.proofs.lemmas.Bool.{cases_eq}
use Rattle.gf256.specs.Field.{IsElement, plus, times, power, alpha, inverse}
use Rattle.gf256.proofs.FieldLaws.{plus_comm, plus_assoc, plus_exchange, plus-zero, zero-plus, plus_self, same_from_plus, plus_cancel_left, plus-lt, times-lt, times_comm, times_assoc, times_left_comm, times_cancel_left, times-zero, zero-times, times-one, one-times, times-plus, times-power, power-zero, power-suc, power-lt, times-inverse, inverse-lt, inverse-ne-zero, one_not_zero, no_zero_divisors, alpha-ne-zero}
use Rattle.gf256.proofs.Polynomials.{plus_self_left}
use Rattle.rs_code.specs.Polynomial.{value_at, product, IsBelowDegree}
use Rattle.rs_code.specs.Laws.{AreSums, IsKeyPair}
use Rattle.rs_code.specs.inside.Errors.{weight, moment, turned, every_other, IsErrorValue, IsApart, AreDistinct}
use Rattle.rs_code.proofs.Moments.{Elements, AreZero, weighed}
use Rattle.rs_code.proofs.Words.{elements_of, points, Elements-points, points_distinct, length-points, weighted_sum-moment}
use Rattle.rs_code.proofs.Locators.{at-product-zero, at-product-suc, higher_degree, value_at-none, turned-suc, AreNonzero, points_nonzero, at-points, turned_pattern}

-- ---- sums over the errors

-- the sum of the errors, each times the value of a function at its point
abbrev pub total : (ℕ → ℕ) → List ℕ → List ℕ → ℕ
total f [] xs = 0
total f (y ∷ ys) [] = 0
total f (y ∷ ys) (x ∷ xs) = plus (times y (f x)) (total f ys xs)

total-zero : (ys xs : List ℕ) → total (λ x. 0) ys xs ≡ 0
total-zero [] xs = refl
total-zero (y ∷ ys) [] = refl
total-zero (y ∷ ys) (x ∷ xs) = ap₂ (λ u v. plus u v) (times-zero y) (total-zero ys xs) ∙ plus-zero 0

total-plus : (f g : ℕ → ℕ) (ys xs : List ℕ) → plus (total f ys xs) (total g ys xs) ≡ total (λ x. plus (f x) (g x)) ys xs
total-plus f g [] xs = plus-zero 0
total-plus f g (y ∷ ys) [] = plus-zero 0
total-plus f g (y ∷ ys) (x ∷ xs) =
    plus_exchange (times y (f x)) (total f ys xs) (times y (g x)) (total g ys xs)
    ∙ ap₂ (λ u v. plus u v) (sym (times-plus y (f x) (g x))) (total-plus f g ys xs)

total-times : (c : ℕ) (f : ℕ → ℕ) (ys xs : List ℕ) → times c (total f ys xs) ≡ total (λ x. times c (f x)) ys xs
total-times c f [] xs = times-zero c
total-times c f (y ∷ ys) [] = times-zero c
total-times c f (y ∷ ys) (x ∷ xs) =
    times-plus c (times y (f x)) (total f ys xs) ∙ ap₂ (λ u v. plus u v) (times_left_comm c y (f x)) (total-times c f ys xs)

total-moment : (ys xs : List ℕ) (i : ℕ) → moment ys xs i ≡ total (λ x. power x i) ys xs
total-moment [] xs i = refl
total-moment (y ∷ ys) [] i = refl
total-moment (y ∷ ys) (x ∷ xs) i = ap (plus (times y (power x i))) (total-moment ys xs i)

-- ---- the coefficients of a product with the sums

-- coefficient n of p times the series 1 + x z + x^2 z^2 + ..
abbrev pub series : List ℕ → ℕ → ℕ → ℕ
series [] n x = 0
series (a ∷ p) zero x = times a (power x 0)
series (a ∷ p) (suc n) x = plus (times a (power x (suc n))) (series p n x)

at-product-total : (p q ys xs : List ℕ) (n : ℕ) → ((j : ℕ) → j ≤ n → get_or q j 0 ≡ moment ys xs j)
    → get_or (product p q) n 0 ≡ total (series p n) ys xs
at-product-total [] q ys xs n moments = sym (total-zero ys xs)
at-product-total (a ∷ p) q ys xs zero moments =
    at-product-zero a p q ∙ ap (times a) (moments 0 (omega arith) ∙ total-moment ys xs 0) ∙ total-times a (λ x. power x 0) ys xs
at-product-total (a ∷ p) q ys xs (suc n) moments =
    at-product-suc a p q n
    ∙ ap₂ (λ u v. plus u v)
    (ap (times a) (moments (suc n) (omega arith) ∙ total-moment ys xs (suc n)) ∙ total-times a (λ x. power x (suc n)) ys xs)
    (at-product-total p q ys xs n (λ j h. moments j (omega (arith, h))))
    ∙ total-plus (λ x. times a (power x (suc n))) (series p n) ys xs

-- ---- the value of the first n coefficients

abbrev pub front_value : ℕ → (ℕ → ℕ) → ℕ → ℕ
front_value zero f z = 0
front_value (suc n) f z = plus (f 0) (times z (front_value n (λ j. f (suc j)) z))

front_value-same : (n : ℕ) (f g : ℕ → ℕ) (z : ℕ) → ((j : ℕ) → j < n → f j ≡ g j) → front_value n f z ≡ front_value n g z
front_value-same zero f g z same = refl
front_value-same (suc n) f g z same =
    ap₂ (λ u v. plus u (times z v)) (same 0 (omega arith))
    (front_value-same n (λ j. f (suc j)) (λ j. g (suc j)) z (λ j h. same (suc j) (omega (arith, h))))

front_value-zero : (n z : ℕ) → front_value n (λ j. 0) z ≡ 0
front_value-zero zero z = refl
front_value-zero (suc n) z = ap (λ u. plus 0 (times z u)) (front_value-zero n z) ∙ ap (plus 0) (times-zero z) ∙ plus-zero 0

front_value-plus : (n : ℕ) (f g : ℕ → ℕ) (z : ℕ) → front_value n (λ j. plus (f j) (g j)) z ≡ plus (front_value n f z) (front_value n g z)
front_value-plus zero f g z = sym (plus-zero 0)
front_value-plus (suc n) f g z =
    ap (plus (plus (f 0) (g 0)))
    (ap (times z) (front_value-plus n (λ j. f (suc j)) (λ j. g (suc j)) z)
    ∙ times-plus z (front_value n (λ j. f (suc j)) z) (front_value n (λ j. g (suc j)) z))
    ∙ plus_exchange (f 0) (g 0) (times z (front_value n (λ j. f (suc j)) z)) (times z (front_value n (λ j. g (suc j)) z))

front_value-times : (n c : ℕ) (f : ℕ → ℕ) (z : ℕ) → front_value n (λ j. times c (f j)) z ≡ times c (front_value n f z)
front_value-times zero c f z = sym (times-zero c)
front_value-times (suc n) c f z =
    ap (plus (times c (f 0)))
    (ap (times z) (front_value-times n c (λ j. f (suc j)) z) ∙ times_left_comm z c (front_value n (λ j. f (suc j)) z))
    ∙ sym (times-plus c (f 0) (times z (front_value n (λ j. f (suc j)) z)))

front_value-total : (n : ℕ) (h : ℕ → ℕ → ℕ) (ys xs : List ℕ) (z : ℕ)
    → front_value n (λ j. total (h j) ys xs) z ≡ total (λ x. front_value n (λ j. h j x) z) ys xs
front_value-total zero h ys xs z = sym (total-zero ys xs)
front_value-total (suc n) h ys xs z =
    ap (λ u. plus (total (h 0) ys xs) (times z u)) (front_value-total n (λ j. h (suc j)) ys xs z)
    ∙ ap (plus (total (h 0) ys xs)) (total-times z (λ x. front_value n (λ j. h (suc j) x) z) ys xs)
    ∙ total-plus (h 0) (λ x. times z (front_value n (λ j. h (suc j) x) z)) ys xs

front_value-lt : (n : ℕ) (f : ℕ → ℕ) (z : ℕ) → ((j : ℕ) → IsElement (f j)) → IsElement (front_value n f z)
front_value-lt zero f z f_in = omega arith
front_value-lt (suc n) f z f_in = plus-lt (f 0) (times z (front_value n (λ j. f (suc j)) z)) (f_in 0) (times-lt z (front_value n (λ j. f (suc j)) z))

value_at-front : (n : ℕ) (p : List ℕ) (z : ℕ) → IsBelowDegree n p → value_at p z ≡ front_value n (λ j. get_or p j 0) z
value_at-front zero p z degree = value_at-none p z degree
value_at-front (suc n) [] z degree = sym (front_value-zero (suc n) z)
value_at-front (suc n) (a ∷ p) z degree = ap (λ u. plus a (times z u)) (value_at-front n p z (higher_degree n a p degree))

-- ---- one error's part in the evaluator

series-lt : (p : List ℕ) (n x : ℕ) → IsElement (series p n x)
series-lt [] n x = omega arith
series-lt (a ∷ p) zero x = times-lt a (power x 0)
series-lt (a ∷ p) (suc n) x = plus-lt (times a (power x (suc n))) (series p n x) (times-lt a (power x (suc n))) (series-lt p n x)

-- the part of an error of value 1 at the point x
abbrev pub part : ℕ → List ℕ → ℕ → ℕ → ℕ
part n p x z = front_value n (λ j. series p j x) z

-- 1 + x z + .. + (x z)^(n - 1)
abbrev pub geometric : ℕ → ℕ → ℕ → ℕ
geometric n x z = front_value n (λ j. power x j) z

part-none : (n x z : ℕ) → part n [] x z ≡ 0
part-none n x z = front_value-zero n z

part-suc : (n a : ℕ) (p : List ℕ) (x z : ℕ) → part (suc n) (a ∷ p) x z ≡ plus (times a (geometric (suc n) x z)) (times z (part n p x z))
part-suc n a p x z =
    let P : ℕ = front_value n (λ j. power x (suc j)) z in
    ap (λ u. plus (times a (power x 0)) (times z u))
    (front_value-plus n (λ j. times a (power x (suc j))) (λ j. series p j x) z
    ∙ ap (λ u. plus u (part n p x z)) (front_value-times n a (λ j. power x (suc j)) z))
    ∙ ap (plus (times a (power x 0))) (times-plus z (times a P) (part n p x z) ∙ ap (λ u. plus u (times z (part n p x z))) (times_left_comm z a P))
    ∙ sym (plus_assoc (times a (power x 0)) (times a (times z P)) (times z (part n p x z)))
    ∙ ap (λ u. plus u (times z (part n p x z))) (sym (times-plus a (power x 0) (times z P)))

geometric-lt : (n x z : ℕ) → IsElement (geometric n x z)
geometric-lt n x z = front_value-lt n (λ j. power x j) z (λ j. power-lt x j)

geometric-suc : (n x z : ℕ) → geometric (suc n) x z ≡ plus 1 (times (times x z) (geometric n x z))
geometric-suc n x z =
    ap₂ (λ u v. plus u (times z v)) (power-zero x)
    (front_value-same n (λ j. power x (suc j)) (λ j. times x (power x j)) z (λ j h. power-suc x j) ∙ front_value-times n x (λ j. power x j) z)
    ∙ ap (plus 1) (sym (times_assoc z x (geometric n x z)) ∙ ap (λ u. times u (geometric n x z)) (times_comm z x))

-- (1 + u) (1 + u + .. + u^(n - 1)) = 1 + u^n
geometric_sum : (n x z : ℕ) → times (plus 1 (times x z)) (geometric n x z) ≡ plus 1 (power (times x z) n)
geometric_sum zero x z = times-zero (plus 1 (times x z)) ∙ sym (ap (plus 1) (power-zero (times x z)) ∙ plus_self 1)
geometric_sum (suc n) x z =
    let u : ℕ = times x z in
    let g : ℕ = geometric n x z in
    ap (times (plus 1 u)) (geometric-suc n x z)
    ∙ times-plus (plus 1 u) 1 (times u g)
    ∙ ap₂ (λ a b. plus a b)
    (times-one (plus 1 u) (plus-lt 1 u (omega arith) (times-lt x z)))
    (times_left_comm (plus 1 u) u g ∙ ap (times u) (geometric_sum n x z) ∙ times-plus u 1 (power u n)
    ∙ ap₂ (λ a b. plus a b) (times-one u (times-lt x z)) (sym (power-suc u n)))
    ∙ plus_assoc 1 u (plus u (power u (suc n)))
    ∙ ap (plus 1) (plus_self_left u (power u (suc n)))

-- (1 + x z) times the part is p(z) + z^n x^n p(1/x)
part_times : (n : ℕ) (p : List ℕ) (x z : ℕ) → IsElement x → x ≢ 0 → Elements p → IsBelowDegree (suc n) p
    → times (plus 1 (times x z)) (part n p x z) ≡ plus (value_at p z) (times (power z n) (turned n p x))
part_times n [] x z x_in ne p_in degree =
    ap (times (plus 1 (times x z))) (part-none n x z) ∙ times-zero (plus 1 (times x z))
    ∙ sym (ap (λ u. plus 0 (times (power z n) u)) (times-zero (power x n)) ∙ ap (plus 0) (times-zero (power z n)) ∙ plus-zero 0)
part_times zero (a ∷ p) x z x_in ne p_in degree =
    let none : IsBelowDegree 0 p = higher_degree 0 a p degree in
    let constant : (y : ℕ) → value_at (a ∷ p) y ≡ a = λ y. ap (λ u. plus a (times y u)) (value_at-none p y none) ∙ ap (plus a) (times-zero y) ∙ plus-zero a in
    times-zero (plus 1 (times x z))
    ∙ sym (ap₂ (λ u v. plus u v) (constant z)
    (ap₂ (λ u v. times u v) (power-zero z) (ap₂ (λ u v. times u v) (power-zero x) (constant (inverse x)) ∙ one-times a p_in.0) ∙ one-times a p_in.0)
    ∙ plus_self a)
part_times (suc n) (a ∷ p) x z x_in ne p_in degree =
    let u : ℕ = times x z in
    let w : ℕ = plus 1 u in
    let g : ℕ = geometric (suc n) x z in
    let zn : ℕ = power z (suc n) in
    let T : ℕ = turned n p x in
    let left : times w (times a g) ≡ plus a (times a (power u (suc n))) =
    times_left_comm w a g ∙ ap (times a) (geometric_sum (suc n) x z) ∙ times-plus a 1 (power u (suc n))
    ∙ ap (λ v. plus v (times a (power u (suc n)))) (times-one a p_in.0) in
    let right : times w (times z (part n p x z)) ≡ plus (times z (value_at p z)) (times zn T) =
    times_left_comm w z (part n p x z)
    ∙ ap (times z) (part_times n p x z x_in ne p_in.1 (higher_degree (suc n) a p degree))
    ∙ times-plus z (value_at p z) (times (power z n) T)
    ∙ ap (plus (times z (value_at p z))) (sym (times_assoc z (power z n) T) ∙ ap (λ v. times v T) (sym (power-suc z n))) in
    let top : times a (power u (suc n)) ≡ times zn (times a (power x (suc n))) =
    ap (times a) (times-power x z (suc n) ∙ times_comm (power x (suc n)) zn) ∙ times_left_comm a zn (power x (suc n)) in
    ap (times w) (part-suc n a p x z) ∙ times-plus w (times a g) (times z (part n p x z))
    ∙ ap₂ (λ b c. plus b c) left right
    ∙ plus_exchange a (times a (power u (suc n))) (times z (value_at p z)) (times zn T)
    ∙ ap (plus (plus a (times z (value_at p z))))
    (ap (λ b. plus b (times zn T)) top ∙ sym (times-plus zn (times a (power x (suc n))) T) ∙ ap (times zn) (sym (turned-suc n a p x x_in ne)))

-- at the inverse of another error's point the part is 0
part_elsewhere : (t : ℕ) (p : List ℕ) (x point : ℕ) → IsElement x → x ≢ 0 → IsElement point → point ≢ 0 → Elements p → IsBelowDegree (suc t) p
    → value_at p (inverse point) ≡ 0 → turned t p x ≡ 0 → x ≢ point → part t p x (inverse point) ≡ 0
part_elsewhere t p x point x_in x_ne point_in point_ne p_in degree root none apart =
    let z : ℕ = inverse point in
    let zero_product : times (plus 1 (times x z)) (part t p x z) ≡ 0 =
    part_times t p x z x_in x_ne p_in degree
    ∙ ap₂ (λ u v. plus u (times (power z t) v)) root none ∙ ap (plus 0) (times-zero (power z t)) ∙ plus-zero 0 in
    ⊎_elim
    (λ (e : plus 1 (times x z) ≡ 0).
    absurd (apart (times_cancel_left z x point (inverse-lt point) (inverse-ne-zero point point_in point_ne) x_in point_in
    (times_comm z x ∙ sym (same_from_plus 1 (times x z) e) ∙ sym (times_comm z point ∙ times-inverse point point_in point_ne)))))
    (λ e. e)
    (no_zero_divisors (plus 1 (times x z)) (part t p x z) (plus-lt 1 (times x z) (omega arith) (times-lt x z))
    (front_value-lt t (λ j. series p j x) z (λ j. series-lt p j x)) zero_product)

-- ---- at the inverse of its own point

every_other-none : (b : Bool) (p : List ℕ) (z : ℕ) → IsBelowDegree 0 p → value_at (every_other b p) z ≡ 0
every_other-none b [] z none = refl
every_other-none true (a ∷ p) z none =
    ap₂ (λ u v. plus u (times z v)) (none 0 (omega arith)) (every_other-none false p z (λ k h. none (suc k) (omega arith)))
    ∙ ap (plus 0) (times-zero z) ∙ plus-zero 0
every_other-none false (a ∷ p) z none =
    ap (λ v. plus 0 (times z v)) (every_other-none true p z (λ k h. none (suc k) (omega arith))) ∙ ap (plus 0) (times-zero z) ∙ plus-zero 0

-- where the geometric sum is 0 the part is the odd part, and where it is 1 the even part
abbrev pub Parts : ℕ → List ℕ → ℕ → ℕ → Type 0
Parts n p x z =
    (geometric n x z ≡ 0 → part n p x z ≡ value_at (every_other false p) z) × (geometric n x z ≡ 1 → part n p x z ≡ value_at (every_other true p) z)

part_own : (n : ℕ) (p : List ℕ) (x z : ℕ) → times x z ≡ 1 → Elements p → IsBelowDegree (suc n) p → Parts n p x z
part_own n [] x z own p_in degree = ((λ e. part-none n x z), (λ e. part-none n x z))
part_own zero (a ∷ p) x z own p_in degree = (
  (λ e. sym (ap (λ v. plus 0 (times z v)) (every_other-none true p z (higher_degree 0 a p degree)) ∙ ap (plus 0) (times-zero z) ∙ plus-zero 0)),
  (λ e. absurd (one_not_zero 0 e refl)),
)
part_own (suc n) (a ∷ p) x z own p_in degree =
    let before : Parts n p x z = part_own n p x z own p_in.1 (higher_degree (suc n) a p degree) in
    let g : ℕ = geometric n x z in
    let next : geometric (suc n) x z ≡ plus 1 g =
    geometric-suc n x z ∙ ap (λ u. plus 1 (times u g)) own ∙ ap (plus 1) (one-times g (geometric-lt n x z)) in (
      (λ e.
          let was : g ≡ 1 = sym (same_from_plus 1 g (sym next ∙ e)) in
          part-suc n a p x z ∙ ap₂ (λ u v. plus (times a u) (times z v)) e (before.1 was) ∙ ap (λ u. plus u (times z (value_at (every_other true p) z))) (times-zero a)),
      (λ e.
          let was : g ≡ 0 = plus_cancel_left 1 g 0 (sym next ∙ e ∙ sym (plus-zero 1)) in
          part-suc n a p x z ∙ ap₂ (λ u v. plus (times a u) (times z v)) e (before.0 was) ∙ ap (λ u. plus u (times z (value_at (every_other false p) z))) (times-one a p_in.0)),
    )

geometric_parity : (n x z : ℕ) → times x z ≡ 1 → (geometric n x z ≡ 0) ⊎ (geometric n x z ≡ 1)
geometric_parity zero x z own = inl refl
geometric_parity (suc n) x z own =
    let g : ℕ = geometric n x z in
    let next : geometric (suc n) x z ≡ plus 1 g =
    geometric-suc n x z ∙ ap (λ u. plus 1 (times u g)) own ∙ ap (plus 1) (one-times g (geometric-lt n x z)) in
    ⊎_elim (λ (e : g ≡ 0). inr (next ∙ ap (plus 1) e ∙ plus-zero 1)) (λ (e : g ≡ 1). inl (next ∙ ap (plus 1) e ∙ plus_self 1))
    (geometric_parity n x z own)

-- the even and the odd part are together the polynomial
both_parts : (p : List ℕ) (z : ℕ) → plus (value_at (every_other true p) z) (value_at (every_other false p) z) ≡ value_at p z
both_parts [] z = plus-zero 0
both_parts (a ∷ p) z =
    let E : ℕ = value_at (every_other true p) z in
    let O : ℕ = value_at (every_other false p) z in
    plus_exchange a (times z O) 0 (times z E)
    ∙ ap₂ (λ u v. plus u v) (plus-zero a) (sym (times-plus z O E) ∙ ap (times z) (plus_comm O E ∙ both_parts p z))

part_here : (t : ℕ) (p : List ℕ) (x z : ℕ) → times x z ≡ 1 → Elements p → IsBelowDegree (suc t) p → value_at p z ≡ 0
    → part t p x z ≡ value_at (every_other false p) z
part_here t p x z own p_in degree root =
    let parts : Parts t p x z = part_own t p x z own p_in degree in
    ⊎_elim (λ e. parts.0 e)
    (λ e. parts.1 e ∙ same_from_plus (value_at (every_other true p) z) (value_at (every_other false p) z) (both_parts p z ∙ root))
    (geometric_parity t x z own)

-- ---- the sum over the errors has one term

-- the function is 0 at the point of each error that isn't 0, but at x
abbrev pub IsSilent : (ℕ → ℕ) → ℕ → List ℕ → List ℕ → Type 0
IsSilent f x [] xs = Unit {0}
IsSilent f x (y ∷ ys) [] = Unit {0}
IsSilent f x (y ∷ ys) (z ∷ zs) = (y ≢ 0 → z ≢ x → f z ≡ 0) × IsSilent f x ys zs

silent_term : (f : ℕ → ℕ) (x y z : ℕ) → (y ≢ 0 → z ≢ x → f z ≡ 0) → z ≢ x → times y (f z) ≡ 0
silent_term f x y z silent ne =
    elim (cases_eq y 0) as (λ _. times y (f z) ≡ 0) [
      | inl none ↦ ap (λ u. times u (f z)) none ∙ zero-times (f z)
      | inr some ↦ ap (times y) (silent some ne) ∙ times-zero y
    ]

total_silent : (f : ℕ → ℕ) (x : ℕ) (ys xs : List ℕ) → IsSilent f x ys xs → IsApart x xs → total f ys xs ≡ 0
total_silent f x [] xs silent apart = refl
total_silent f x (y ∷ ys) [] silent apart = refl
total_silent f x (y ∷ ys) (z ∷ zs) silent apart =
    ap₂ (λ u v. plus u v) (silent_term f x y z silent.0 apart.0) (total_silent f x ys zs silent.1 apart.1) ∙ plus-zero 0

apart_at : (z : ℕ) (xs : List ℕ) (s : ℕ) → s < length xs → IsApart z xs → get_or xs s 0 ≢ z
apart_at z [] s within apart = absurd (omega (arith, within))
apart_at z (x ∷ xs) zero within apart = apart.0
apart_at z (x ∷ xs) (suc s) within apart = apart_at z xs s (omega (arith, within)) apart.1

total_single : (f : ℕ → ℕ) (ys xs : List ℕ) (s : ℕ) → s < length ys → s < length xs → AreDistinct xs → IsSilent f (get_or xs s 0) ys xs
    → total f ys xs ≡ times (get_or ys s 0) (f (get_or xs s 0))
total_single f [] xs s inside within distinct silent = absurd (omega (arith, inside))
total_single f (y ∷ ys) [] s inside within distinct silent = absurd (omega (arith, within))
total_single f (y ∷ ys) (x ∷ xs) zero inside within distinct silent =
    ap (plus (times y (f x))) (total_silent f x ys xs silent.1 distinct.0) ∙ plus-zero (times y (f x))
total_single f (y ∷ ys) (x ∷ xs) (suc s) inside within distinct silent =
    ap₂ (λ u v. plus u v)
    (silent_term f (get_or xs s 0) y x silent.0 (λ e. apart_at x xs s (omega (arith, within)) distinct.0 (sym e)))
    (total_single f ys xs s (omega (arith, inside)) (omega (arith, within)) distinct.1 silent.1)
    ∙ zero-plus (times (get_or ys s 0) (f (get_or xs s 0)))

-- ---- the value of an error

parts_silent : (t : ℕ) (p : List ℕ) (point : ℕ) (ys xs : List ℕ) → IsElement point → point ≢ 0 → Elements p → IsBelowDegree (suc t) p
    → value_at p (inverse point) ≡ 0 → Elements ys → Elements xs → AreNonzero xs → AreZero (weighed (turned t p) ys xs)
    → IsSilent (λ x. part t p x (inverse point)) point ys xs
parts_silent t p point [] xs point_in point_ne p_in degree root ys_in xs_in nonzero zeros = tt
parts_silent t p point (y ∷ ys) [] point_in point_ne p_in degree root ys_in xs_in nonzero zeros = tt
parts_silent t p point (y ∷ ys) (x ∷ xs) point_in point_ne p_in degree root ys_in xs_in nonzero zeros = (
  (λ y_ne apart. part_elsewhere t p x point xs_in.0 nonzero.0 point_in point_ne p_in degree root
      (⊎_elim (λ e. absurd (y_ne e)) (λ e. e) (no_zero_divisors y (turned t p x) ys_in.0 (times-lt (power x t) (value_at p (inverse x))) zeros.0))
      apart),
  parts_silent t p point ys xs point_in point_ne p_in degree root ys_in.1 xs_in.1 nonzero.1 zeros.1,
)

-- the evaluator at the inverse of an error's point is the error times the odd part of the locator
pub evaluator_value : (t : ℕ) (sums locator evaluator errors : List ℕ) (s : ℕ) → length errors ≤ 255 → Elements errors → weight errors ≤ t
    → AreSums t errors sums → IsKeyPair t sums locator evaluator → s < length errors
    → let z = inverse (power alpha (length errors - 1 - s)) in value_at locator z ≡ 0
    → value_at evaluator z ≡ times (get_or errors s 0) (value_at (every_other false locator) z)
evaluator_value t sums locator evaluator errors s short errors_in few are_sums pair within root =
    let xs : List ℕ = points (length errors) in
    let x : ℕ = power alpha (length errors - 1 - s) in
    let z : ℕ = inverse x in
    let locator_in : Elements locator = elements_of locator pair.elements in
    let degree : IsBelowDegree (suc t) locator = λ k above. pair.locator_degree k (omega (arith, above)) in
    let here : get_or xs s 0 ≡ x = at-points (length errors) s within in
    let f : ℕ → ℕ = λ y. part t locator y z in
    let silent : IsSilent f x errors xs =
    parts_silent t locator x errors xs (power-lt alpha (length errors - 1 - s)) (alpha-ne-zero (length errors - 1 - s)) locator_in degree root
    errors_in (Elements-points (length errors)) (points_nonzero (length errors))
    (turned_pattern t sums locator evaluator errors short errors_in few are_sums pair) in
    value_at-front t evaluator z pair.evaluator_degree
    ∙ front_value-same t (λ j. get_or evaluator j 0) (λ j. total (series locator j) errors xs) z
    (λ j h. sym (pair.agrees j (omega (arith, h)))
    ∙ at-product-total locator sums errors xs j (λ i below. are_sums i (omega (arith, h, below)) ∙ weighted_sum-moment errors i))
    ∙ front_value-total t (λ j x. series locator j x) errors xs z
    ∙ total_single f errors xs s within (omega (arith, within, length-points (length errors))) (points_distinct (length errors) short)
    (subst (λ y. IsSilent f y errors xs) (sym here) silent)
    ∙ ap (times (get_or errors s 0))
    (ap f here
    ∙ part_here t locator x z (times-inverse x (power-lt alpha (length errors - 1 - s)) (alpha-ne-zero (length errors - 1 - s))) locator_in degree root)

-- the quotient of the two values at the inverse of a point is the only value that an error there can have
pub quotient_right : (locator evaluator : List ℕ) (n z slope over v : ℕ) → z ≡ inverse (power alpha n)
    → slope ≡ value_at (every_other false locator) z → over ≡ value_at evaluator z → IsElement slope → (slope ≢ 0 → v ≡ times over (inverse slope))
    → IsErrorValue locator evaluator n v
quotient_right locator evaluator n z slope over v z_is slope_is over_is slope_in quotient error error_in ne value =
    let odd : slope ≡ value_at (every_other false locator) (inverse (power alpha n)) =
    slope_is ∙ ap (value_at (every_other false locator)) z_is in
    elim (cases_eq slope 0) as (λ _. v ≡ error) [
      | inl none ↦ absurd (ne (value ∙ ap (times error) (sym odd ∙ none) ∙ times-zero error))
      | inr some ↦
          quotient some
          ∙ ap (λ u. times u (inverse slope)) (over_is ∙ ap (value_at evaluator) z_is ∙ value ∙ ap (times error) (sym odd))
          ∙ times_assoc error slope (inverse slope)
          ∙ ap (times error) (times-inverse slope slope_in some) ∙ times-one error error_in
    ]
