-- Why the values at the roots are those of the errors, and what that says of a word that is near.
use Rattle.std.proofs.Common.{◌≡◌, ◌≢◌, ℕ, zero, suc, ◌+◌, ◌-◌, ◌*◌, ◌<◌, ◌≤◌, List, [], ◌∷◌, ◌++◌, length, map, refl, sym, ◌∙◌, ap, ap₂, arith, subst, get_or, nat_eq, true, false, ⊎_elim, append-nil}
use Rattle.std.proofs.lemmas.List.{map-append, length-map, get_or-map}
use Rattle.std.proofs.lemmas.Bool.Decides.{eqb_tells}
use Rattle.gf256.specs.Field.{IsElement, plus, times, power, alpha, inverse}
use Rattle.gf256.specs.Linear.{IsVector, IsNonzero}
use Rattle.gf256.proofs.FieldLaws.{plus_comm, plus_assoc, plus-zero, zero-plus, zero-times, power-lt, power-mul, inverse-lt, inverse-ne-zero, alpha-ne-zero}
use Rattle.rs_code.specs.Word.{weighted_sum}
use Rattle.rs_code.specs.Polynomial.{value_at}
use Rattle.rs_code.specs.Laws.{AreSums, IsKeyPair}
use Rattle.rs_code.specs.inside.Errors.{weight, IsErrorPattern, moment, powers, turned, every_other, IsErrorValue, IsRooted, AreBelow, root_exponents}
use Rattle.rs_code.proofs.Moments.{Elements, AreZero, weighed}
use Rattle.rs_code.proofs.Words.{elements_of, points, Elements-points}
use Rattle.rs_code.proofs.Locators.{AreNonzero, points_nonzero, turned_pattern, turned_vanishes}
use Rattle.rs_code.proofs.Roots.{AreRootExponents, root_exponents_hold, weight-IsRooted, IsRooted-weighed}
use Rattle.rs_code.proofs.Steps.{roots_few, AreBelow-at, HasRoots-at}
use Rattle.rs_code.proofs.ErrorValues.{evaluator_value}

-- what holds of a list that is the exponents of the roots
pub known_roots : (p exponents : List ℕ) (n : ℕ) → n ≤ 255 → exponents ≡ root_exponents p n → AreRootExponents p n exponents
known_roots p exponents n within same = subst (AreRootExponents p n) (sym same) (root_exponents_hold p n within)

-- errors at the roots of a polynomial of degree at most t are few
pub few_errors : (t n : ℕ) (p errors : List ℕ) → n ≤ 255 → IsVector 17 (t + 1) p → IsNonzero p → length errors ≡ n → IsRooted p errors
    → weight errors ≤ t
few_errors t n p errors within vector nonzero long rooted =
    omega (
      arith,
      roots_few t n p within vector nonzero,
      subst (λ m. weight errors ≤ length (root_exponents p m)) long (weight-IsRooted p errors rooted),
    )

-- ---- a word's errors by their exponents

-- the errors at the symbols with the given exponents
abbrev pub picked : List ℕ → List ℕ → List ℕ
picked errors exponents = map (λ n. get_or errors (length errors - 1 - n) 0) exponents

picked-cons : (symbol : ℕ) (rest exponents : List ℕ) → AreBelow (length rest) exponents → picked (symbol ∷ rest) exponents ≡ picked rest exponents
picked-cons symbol rest [] below = refl
picked-cons symbol rest (n ∷ exponents) below =
    let next : suc (length rest) - 1 - n ≡ suc (length rest - 1 - n) = omega (arith, below.0) in
    ap₂ (λ x xs. x ∷ xs) (ap (λ j. get_or (symbol ∷ rest) j 0) next) (picked-cons symbol rest exponents below.1)

moment-snoc : (ys xs : List ℕ) (y x i : ℕ) → length ys ≡ length xs
    → moment (ys ++ y ∷ []) (xs ++ x ∷ []) i ≡ plus (moment ys xs i) (times y (power x i))
moment-snoc [] [] y x i same = plus-zero (times y (power x i)) ∙ sym (zero-plus (times y (power x i)))
moment-snoc [] (z ∷ xs) y x i same = absurd (omega (arith, same))
moment-snoc (w ∷ ys) [] y x i same = absurd (omega (arith, same))
moment-snoc (w ∷ ys) (z ∷ xs) y x i same =
    ap (plus (times w (power z i))) (moment-snoc ys xs y x i (omega (arith, same)))
    ∙ sym (plus_assoc (times w (power z i)) (moment ys xs i) (times y (power x i)))

-- errors at the roots alone: their sums are the moments at the roots
pub picked_moments : (p errors : List ℕ) (i : ℕ) → length errors ≤ 255 → IsRooted p errors
    → moment (picked errors (root_exponents p (length errors))) (powers (root_exponents p (length errors))) i ≡ weighted_sum errors i
picked_moments p [] i short rooted = refl
picked_moments p (symbol ∷ rest) i short rooted =
    let n : ℕ = length rest in
    let ks : List ℕ = root_exponents p n in
    let before : moment (picked rest ks) (powers ks) i ≡ weighted_sum rest i = picked_moments p rest i (omega (arith, short)) rooted.1 in
    let known : AreRootExponents p n ks = root_exponents_hold p n (omega (arith, short)) in
    let weight_of : power (power alpha n) i ≡ power alpha (n * i) = sym (power-mul alpha n i) in
    ⊎_elim
    (λ (t : (nat_eq (value_at p (power alpha n)) 0 ≡ true) × (value_at p (power alpha n) ≡ 0)).
    let last : suc n - 1 - n ≡ 0 = omega arith in
    rw (t.0, map-append (λ k. get_or (symbol ∷ rest) (suc n - 1 - k) 0) ks (n ∷ []), map-append (power alpha) ks (n ∷ []))
    (ap₂ (λ u v. moment (u ++ v ∷ []) (powers ks ++ power alpha n ∷ []) i) (picked-cons symbol rest ks known.below) (ap (λ j. get_or (symbol ∷ rest) j 0) last)
    ∙ moment-snoc (picked rest ks) (powers ks) symbol (power alpha n) i
    (length-map ks (λ k. get_or rest (length rest - 1 - k) 0) ∙ sym (length-map ks (power alpha)))
    ∙ ap₂ (λ u v. plus u (times symbol v)) before weight_of
    ∙ plus_comm (weighted_sum rest i) (times symbol (power alpha (n * i)))))
    (λ (t : (nat_eq (value_at p (power alpha n)) 0 ≡ false) × (value_at p (power alpha n) ≢ 0)).
    let none : symbol ≡ 0 = zero_from symbol (value_at p (power alpha n)) rooted.0 t.1 in
    rw (t.0, append-nil ks)
    (ap (λ u. moment u (powers ks) i) (picked-cons symbol rest ks known.below) ∙ before
    ∙ sym (ap (λ u. plus (times u (power alpha (n * i))) (weighted_sum rest i)) none
    ∙ ap (λ u. plus u (weighted_sum rest i)) (zero-times (power alpha (n * i))) ∙ zero-plus (weighted_sum rest i))))
    (eqb_tells (value_at p (power alpha n)) 0)
  where
    zero_from : (symbol v : ℕ) → (symbol ≢ 0 → v ≡ 0) → v ≢ 0 → symbol ≡ 0
    zero_from zero v root ne = refl
    zero_from (suc k) v root ne = absurd (ne (root (λ e. cc)))

-- the moments are of the first values, as many as there are points
moment-same : (ys zs xs : List ℕ) (i : ℕ) → ((k : ℕ) → k < length xs → get_or ys k 0 ≡ get_or zs k 0) → moment ys xs i ≡ moment zs xs i
moment-same [] [] xs i same = refl
moment-same [] (z ∷ zs) [] i same = refl
moment-same [] (z ∷ zs) (x ∷ xs) i same =
    sym (ap₂ (λ u v. plus (times u (power x i)) v) (sym (same 0 (omega arith)))
    (sym (moment-same [] zs xs i (λ k h. same (suc k) (omega (arith, h)))))
    ∙ ap (λ u. plus u 0) (zero-times (power x i)) ∙ plus-zero 0)
moment-same (y ∷ ys) [] [] i same = refl
moment-same (y ∷ ys) [] (x ∷ xs) i same =
    ap₂ (λ u v. plus (times u (power x i)) v) (same 0 (omega arith)) (moment-same ys [] xs i (λ k h. same (suc k) (omega (arith, h))))
    ∙ ap (λ u. plus u 0) (zero-times (power x i)) ∙ plus-zero 0
moment-same (y ∷ ys) (z ∷ zs) [] i same = refl
moment-same (y ∷ ys) (z ∷ zs) (x ∷ xs) i same =
    ap₂ (λ u v. plus (times u (power x i)) v) (same 0 (omega arith)) (moment-same ys zs xs i (λ k h. same (suc k) (omega (arith, h))))

-- ---- the values at the roots

weighed_same : (f g : ℕ → ℕ) (ys xs : List ℕ) → Elements xs → AreNonzero xs → ((x : ℕ) → IsElement x → x ≢ 0 → f x ≡ g x)
    → AreZero (weighed g ys xs) → AreZero (weighed f ys xs)
weighed_same f g [] xs xs_in nonzero same zeros = tt
weighed_same f g (y ∷ ys) [] xs_in nonzero same zeros = tt
weighed_same f g (y ∷ ys) (x ∷ xs) xs_in nonzero same zeros = (
  ap (times y) (same x xs_in.0 nonzero.0) ∙ zeros.0,
  weighed_same f g ys xs xs_in.1 nonzero.1 same zeros.1,
)

-- the errors sit at the roots of the turned locator
pub pattern_rooted : (t : ℕ) (sums locator evaluator p errors : List ℕ) → length errors ≤ 255 → Elements errors → weight errors ≤ t
    → AreSums t errors sums → IsKeyPair t sums locator evaluator → Elements p
    → ((x : ℕ) → IsElement x → x ≢ 0 → value_at p x ≡ turned t locator x)
    → IsRooted p errors
pattern_rooted t sums locator evaluator p errors short errors_in few are_sums pair p_in is_turned =
    IsRooted-weighed p errors p_in errors_in
    (weighed_same (value_at p) (turned t locator) errors (points (length errors)) (Elements-points (length errors)) (points_nonzero (length errors)) is_turned
    (turned_pattern t sums locator evaluator errors short errors_in few are_sums pair))

-- the values found at the roots have the sums of the errors
pub values_right : (t m : ℕ) (sums locator evaluator p exponents ys errors : List ℕ) → m ≤ 255
    → IsKeyPair t sums locator evaluator
    → ((x : ℕ) → IsElement x → x ≢ 0 → value_at locator x ≡ 0 → value_at evaluator x ≢ 0)
    → Elements p → ((x : ℕ) → IsElement x → x ≢ 0 → value_at p x ≡ turned t locator x)
    → exponents ≡ root_exponents p m
    → ((k : ℕ) → k < length exponents → IsErrorValue locator evaluator (get_or exponents k 0) (get_or ys k 0))
    → IsErrorPattern t m sums errors
    → (i : ℕ) → i < 2 * t → moment ys (powers exponents) i ≡ get_or sums i 0
values_right t m sums locator evaluator p exponents ys errors within pair apart p_in is_turned are_roots found pattern i h =
    let errors_in : Elements errors = elements_of errors pattern.elements in
    let long : length errors ≡ m = pattern.same_length in
    let short : length errors ≤ 255 = omega (arith, long, within) in
    let known : AreRootExponents p m exponents = known_roots p exponents m within are_roots in
    let rooted : IsRooted p errors = pattern_rooted t sums locator evaluator p errors short errors_in pattern.few pattern.sums_agree pair p_in is_turned in
    let value : (k : ℕ) → k < length exponents → get_or ys k 0 ≡ get_or errors (length errors - 1 - get_or exponents k 0) 0 = λ k below.
    let n : ℕ = get_or exponents k 0 in
    let s : ℕ = length errors - 1 - n in
    let x : ℕ = power alpha n in
    let n_below : n < m = AreBelow-at m exponents k below known.below in
    let at : length errors - 1 - s ≡ n = omega (arith, n_below, long) in
    let root : value_at locator (inverse x) ≡ 0 =
    turned_vanishes t n locator (elements_of locator pair.elements)
    (sym (is_turned x (power-lt alpha n) (alpha-ne-zero n)) ∙ HasRoots-at p exponents k below known.roots) in
    found k below (get_or errors s 0) (at_element errors s errors_in)
    (apart (inverse x) (inverse-lt x) (inverse-ne-zero x (power-lt alpha n) (alpha-ne-zero n)) root)
    (subst (λ e. value_at locator (inverse (power alpha e)) ≡ 0 → value_at evaluator (inverse (power alpha e)) ≡ times (get_or errors s 0) (value_at (every_other false locator) (inverse (power alpha e)))) at
    (evaluator_value t sums locator evaluator errors s short errors_in pattern.few pattern.sums_agree pair (omega (arith, n_below, long)))
    root) in
    moment-same ys (picked errors exponents) (powers exponents) i
    (λ k below.
    let inside : k < length exponents = omega (arith, below, length-map exponents (power alpha)) in
    value k inside ∙ sym (get_or-map (λ n. get_or errors (length errors - 1 - n) 0) exponents k 0 0 inside))
    ∙ ap (λ ks. moment (picked errors ks) (powers ks) i) (are_roots ∙ ap (root_exponents p) (sym long))
    ∙ picked_moments p errors i short rooted
    ∙ sym (pattern.sums_agree i h)
  where
    at_element : (xs : List ℕ) (k : ℕ) → Elements xs → IsElement (get_or xs k 0)
    at_element [] k xs_in = omega arith
    at_element (x ∷ xs) zero xs_in = xs_in.0
    at_element (x ∷ xs) (suc k) xs_in = at_element xs k xs_in.1
