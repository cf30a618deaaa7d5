-- What the turns of the extended division keep.
use Rattle.std.proofs.Common.{◌≡◌, ◌≢◌, ℕ, zero, suc, ◌+◌, ◌-◌, ◌*◌, ◌<◌, ◌≤◌, ◌⊎◌, inl, inr, List, [], ◌∷◌, ◌++◌, length, take, set, replicate, refl, sym, ◌∙◌, ap, ap₂, arith, subst, ⊎_elim, get_or}
use Rattle.std.specs.Prelude.{All}
use Rattle.std.proofs.lemmas.Bool.{cases_lt}
use Rattle.std.proofs.lemmas.List.Elements.{All-take}
use Rattle.std.proofs.lemmas.List.{get_or_append_left, get_or-take, length-take-le, append_assoc, set_at, take_more, take-take}
use Rattle.gf256.specs.Field.{IsElement, plus, times, power, inverse}
use Rattle.gf256.specs.Linear.{values, scaled, IsNonzero}
use Rattle.gf256.specs.declared.Gf.{Gf}
use Rattle.gf256.proofs.Lists.{get_or-scaled, at-values, length-values}
use Rattle.gf256.proofs.FieldLaws.{plus_exchange, plus-zero, zero-plus, plus_self, plus-times, times-plus, times-zero, zero-times, times-one, one-times, times_assoc, times_comm, times_left_comm, plus_comm, power-zero, power-suc, power-lt, one_not_zero, times-lt, times-inverse, times-ne-zero, inverse-lt, inverse-ne-zero}
use Rattle.rs_code.specs.declared.key_equation.Remainder.{Remainder}
use Rattle.rs_code.specs.Polynomial.{value_at, sum_of, product, IsBelowDegree}
use Rattle.rs_code.specs.Laws.{IsKeyPair}
use Rattle.rs_code.specs.inside.Division.{shifted, HasLength, Leaves, IsRemainder, Crosses, AreInARow, CanDivide, ratio, Reduces}
use Rattle.rs_code.proofs.Moments.{Elements}
use Rattle.rs_code.proofs.Words.{elements_of, Elements-sum_of}
use Rattle.rs_code.proofs.Locators.{at-sum_of, at-product-zero, at-product-suc, at-product-none, value_at-none, value_at-lt, higher_degree}
use Rattle.rs_code.proofs.Roots.{Elements-take, value_at-take, length-take-under}
use Rattle.rs_code.proofs.Patterns.{all_of}
use Rattle.rs_code.proofs.Steps.{values-take}

-- ---- the coefficients of a product

pub at-product-sum_of : (p q s : List ℕ) (n : ℕ)
    → get_or (product (sum_of p q) s) n 0 ≡ plus (get_or (product p s) n 0) (get_or (product q s) n 0)
at-product-sum_of [] q s n = sym (zero-plus (get_or (product q s) n 0))
at-product-sum_of (a ∷ p) [] s n = sym (plus-zero (get_or (product (a ∷ p) s) n 0))
at-product-sum_of (a ∷ p) (b ∷ q) s zero =
    at-product-zero (plus a b) (sum_of p q) s ∙ plus-times a b (get_or s 0 0)
    ∙ sym (ap₂ (λ u v. plus u v) (at-product-zero a p s) (at-product-zero b q s))
at-product-sum_of (a ∷ p) (b ∷ q) s (suc n) =
    at-product-suc (plus a b) (sum_of p q) s n
    ∙ ap₂ (λ u v. plus u v) (plus-times a b (get_or s (suc n) 0)) (at-product-sum_of p q s n)
    ∙ plus_exchange (times a (get_or s (suc n) 0)) (times b (get_or s (suc n) 0)) (get_or (product p s) n 0) (get_or (product q s) n 0)
    ∙ sym (ap₂ (λ u v. plus u v) (at-product-suc a p s n) (at-product-suc b q s n))

pub at-product-scaled : (c : ℕ) (p s : List ℕ) (n : ℕ) → get_or (product (scaled c p) s) n 0 ≡ times c (get_or (product p s) n 0)
at-product-scaled c [] s n = sym (times-zero c)
at-product-scaled c (a ∷ p) s zero =
    at-product-zero (times c a) (scaled c p) s ∙ times_assoc c a (get_or s 0 0) ∙ ap (times c) (sym (at-product-zero a p s))
at-product-scaled c (a ∷ p) s (suc n) =
    at-product-suc (times c a) (scaled c p) s n
    ∙ ap₂ (λ u v. plus u v) (times_assoc c a (get_or s (suc n) 0)) (at-product-scaled c p s n)
    ∙ sym (times-plus c (times a (get_or s (suc n) 0)) (get_or (product p s) n 0))
    ∙ ap (times c) (sym (at-product-suc a p s n))

-- the coefficients from a degree on are 0 and can be left out
pub at-product-take : (n : ℕ) (p s : List ℕ) (k : ℕ) → IsBelowDegree n p → get_or (product (take n p) s) k 0 ≡ get_or (product p s) k 0
at-product-take zero [] s k degree = refl
at-product-take zero (a ∷ p) s k degree = sym (at-product-none (a ∷ p) s k degree)
at-product-take (suc n) [] s k degree = refl
at-product-take (suc n) (a ∷ p) s zero degree = at-product-zero a (take n p) s ∙ sym (at-product-zero a p s)
at-product-take (suc n) (a ∷ p) s (suc k) degree =
    at-product-suc a (take n p) s k
    ∙ ap (plus (times a (get_or s (suc k) 0))) (at-product-take n p s k (higher_degree n a p degree))
    ∙ sym (at-product-suc a p s k)

pub at-take : (n : ℕ) (p : List ℕ) (k : ℕ) → IsBelowDegree n p → get_or (take n p) k 0 ≡ get_or p k 0
at-take zero [] k degree = refl
at-take zero (a ∷ p) k degree = sym (degree k (omega arith))
at-take (suc n) [] k degree = refl
at-take (suc n) (a ∷ p) zero degree = refl
at-take (suc n) (a ∷ p) (suc k) degree = at-take n p k (higher_degree n a p degree)

-- ---- powers of x

pub at-shifted_below : (k : ℕ) (q : List ℕ) (n : ℕ) → n < k → get_or (shifted k q) n 0 ≡ 0
at-shifted_below zero q n below = absurd (omega (arith, below))
at-shifted_below (suc k) q zero below = refl
at-shifted_below (suc k) q (suc n) below = at-shifted_below k q n (omega (arith, below))

pub at-shifted_from : (k : ℕ) (q : List ℕ) (n m : ℕ) → m ≡ k + n → get_or (shifted k q) m 0 ≡ get_or q n 0
at-shifted_from zero q n m there = ap (λ i. get_or q i 0) (omega (arith, there))
at-shifted_from (suc k) q n zero there = absurd (omega (arith, there))
at-shifted_from (suc k) q n (suc m) there = at-shifted_from k q n m (omega (arith, there))

pub at-shifted_above : (k m : ℕ) (q : List ℕ) (n : ℕ) → IsBelowDegree m q → k + m ≤ n → get_or (shifted k q) n 0 ≡ 0
at-shifted_above k m q n degree above = at-shifted_from k q (n - k) n (omega (arith, above)) ∙ degree (n - k) (omega (arith, above))

pub Elements-shifted : (k : ℕ) (q : List ℕ) → Elements q → Elements (shifted k q)
Elements-shifted zero q q_in = q_in
Elements-shifted (suc k) q q_in = (omega arith, Elements-shifted k q q_in)

pub Elements-scaled : (c : ℕ) (q : List ℕ) → Elements (scaled c q)
Elements-scaled c [] = tt
Elements-scaled c (b ∷ q) = (times-lt c b, Elements-scaled c q)

shifted_leaves : (k m : ℕ) (s q r : List ℕ) → ((i : ℕ) → i < m → get_or (product q s) i 0 ≡ get_or r i 0)
    → (i : ℕ) → i < m → get_or (product (shifted k q) s) i 0 ≡ get_or (shifted k r) i 0
shifted_leaves zero m s q r leaves i h = leaves i h
shifted_leaves (suc k) m s q r leaves zero h = at-product-zero 0 (shifted k q) s ∙ zero-times (get_or s 0 0)
shifted_leaves (suc k) m s q r leaves (suc i) h =
    at-product-suc 0 (shifted k q) s i
    ∙ ap (λ u. plus u (get_or (product (shifted k q) s) i 0)) (zero-times (get_or s (suc i) 0))
    ∙ zero-plus (get_or (product (shifted k q) s) i 0)
    ∙ shifted_leaves k m s q r leaves i (omega (arith, h))

-- ---- a multiple is added

-- p + c x^k q
abbrev pub added : List ℕ → ℕ → ℕ → List ℕ → List ℕ
added p c k q = sum_of p (scaled c (shifted k q))

pub at-added : (p : List ℕ) (c k : ℕ) (q : List ℕ) (n : ℕ) → get_or (added p c k q) n 0 ≡ plus (get_or p n 0) (times c (get_or (shifted k q) n 0))
at-added p c k q n =
    at-sum_of p (scaled c (shifted k q)) n ∙ ap (plus (get_or p n 0)) (get_or-scaled c (shifted k q) n)

-- where nothing is added
pub at-added_none : (p : List ℕ) (c k : ℕ) (q : List ℕ) (n : ℕ) → get_or (shifted k q) n 0 ≡ 0 → get_or (added p c k q) n 0 ≡ get_or p n 0
at-added_none p c k q n none =
    at-added p c k q n ∙ ap (λ u. plus (get_or p n 0) (times c u)) none ∙ ap (plus (get_or p n 0)) (times-zero c) ∙ plus-zero (get_or p n 0)

pub Elements-added : (p : List ℕ) (c k : ℕ) (q : List ℕ) → Elements p → Elements (added p c k q)
Elements-added p c k q p_in = Elements-sum_of p (scaled c (shifted k q)) p_in (Elements-scaled c (shifted k q))

pub added_leaves : (t : ℕ) (sums f r g s : List ℕ) (c k : ℕ) → Leaves t sums f r → Leaves t sums g s
    → Leaves t sums (added f c k g) (added r c k s)
added_leaves t sums f r g s c k first second i h =
    at-product-sum_of f (scaled c (shifted k g)) sums i
    ∙ ap₂ (λ u v. plus u v) (first i h)
    (at-product-scaled c (shifted k g) sums i ∙ ap (times c) (shifted_leaves k (2 * t) sums g s second i h))
    ∙ sym (at-added r c k s i)

-- the coefficients past a degree are left out on both sides
pub take_leaves : (t : ℕ) (sums g s : List ℕ) (m l : ℕ) → IsBelowDegree m g → IsBelowDegree l s → Leaves t sums g s
    → Leaves t sums (take m g) (take l s)
take_leaves t sums g s m l g_degree s_degree leaves i h =
    at-product-take m g sums i g_degree ∙ leaves i h ∙ sym (at-take l s i s_degree)

pub IsBelowDegree-take : (n m : ℕ) (p : List ℕ) → IsBelowDegree n p → IsBelowDegree m p → IsBelowDegree m (take n p)
IsBelowDegree-take n m p degree low k h = at-take n p k degree ∙ low k h

-- a further multiple is written into place k + j
pub added_more : (p q : List ℕ) (c k j n : ℕ) → n ≡ k + j → n < length p → j < length q
    → set (added p c k (take j q)) n (plus (get_or (added p c k (take j q)) n 0) (times c (get_or q j 0))) ≡ added p c k (take (suc j) q)
added_more [] q c k j n there within inside = absurd (omega (arith, within))
added_more (a ∷ p) [] c k j n there within inside = absurd (omega (arith, inside))
added_more (a ∷ p) (b ∷ q) c (suc k) j zero there within inside = absurd (omega (arith, there))
added_more (a ∷ p) (b ∷ q) c (suc k) j (suc n) there within inside =
    ap (λ r. plus a (times c 0) ∷ r) (added_more p (b ∷ q) c k j n (omega (arith, there)) (omega (arith, within)) inside)
added_more (a ∷ p) (b ∷ q) c zero zero zero there within inside =
    ap (λ r. plus a (times c b) ∷ r) (none_added p)
  where
    none_added : (p : List ℕ) → p ≡ sum_of p []
    none_added [] = refl
    none_added (a ∷ p) = refl
added_more (a ∷ p) (b ∷ q) c zero zero (suc n) there within inside = absurd (omega (arith, there))
added_more (a ∷ p) (b ∷ q) c zero (suc j) zero there within inside = absurd (omega (arith, there))
added_more (a ∷ p) (b ∷ q) c zero (suc j) (suc n) there within inside =
    ap (λ r. plus a (times c b) ∷ r) (added_more p q c zero j n (omega (arith, there)) (omega (arith, within)) (omega (arith, inside)))

-- ---- the leading coefficient is taken away

cancels : (a b : ℕ) → IsElement a → IsElement b → b ≢ 0 → plus a (times (times a (inverse b)) b) ≡ 0
cancels a b a_in b_in ne =
    ap (plus a) (times_assoc a (inverse b) b ∙ ap (times a) (times_comm (inverse b) b ∙ times-inverse b b_in ne) ∙ times-one a a_in) ∙ plus_self a

-- the multiple of s that has the leading coefficient of r leaves a lower degree
pub lower_degree : (r s : List ℕ) (n l : ℕ) → 1 ≤ l → l ≤ n → IsBelowDegree n r → IsBelowDegree l s → IsElement (get_or r (n - 1) 0) → IsElement (get_or s (l - 1) 0)
    → get_or s (l - 1) 0 ≢ 0
    → IsBelowDegree (n - 1) (added r (times (get_or r (n - 1) 0) (inverse (get_or s (l - 1) 0))) (n - l) (take l s))
lower_degree r s n l some fits r_degree s_degree a_in b_in ne k above =
    let a : ℕ = get_or r (n - 1) 0 in
    let b : ℕ = get_or s (l - 1) 0 in
    let c : ℕ = times a (inverse b) in
    ⊎_elim
    (λ (past : n ≤ k).
    at-added_none r c (n - l) (take l s) k
    (at-shifted_above (n - l) l (take l s) k (IsBelowDegree-take l l s s_degree s_degree) (omega (arith, past, fits))) ∙ r_degree k past)
    (λ (here : k < n).
    let same : k ≡ n - 1 = omega (arith, here, above, some, fits) in
    let there : get_or (shifted (n - l) (take l s)) k 0 ≡ b =
    at-shifted_from (n - l) (take l s) (l - 1) k (omega (arith, same, some, fits)) ∙ at-take l s (l - 1) s_degree in
    at-added r c (n - l) (take l s) k
    ∙ ap₂ (λ u v. plus u (times c v)) (ap (λ i. get_or r i 0) same) there ∙ cancels a b a_in b_in ne)
    (swap (cases_lt k n))
  where
    swap : {A B : Type 0} → A ⊎ B → B ⊎ A
    swap s = ⊎_elim inr inl s

-- ---- the factors

pub at_all : (p : List ℕ) (k : ℕ) → Elements p → IsElement (get_or p k 0)
at_all [] k p_in = omega arith
at_all (a ∷ p) zero p_in = p_in.0
at_all (a ∷ p) (suc k) p_in = at_all p k p_in.1

-- the first multiple of the later factor gives the sum its leading coefficient
pub first_factor_added : (f g : List ℕ) (c k e m : ℕ) → IsBelowDegree e f → HasLength (e + 1) g → c ≢ 0 → IsElement c → Elements g → e + 1 ≤ m
    → HasLength (k + (e + 1)) (added f c k (take m g))
first_factor_added f g c k e m f_degree g_length c_ne c_in g_in room =
    let m_degree : IsBelowDegree m g = λ i h. g_length.degree i (omega (arith, h, room)) in
    let here : k + (e + 1) - 1 ≡ k + e = omega arith in
    let there : get_or (shifted k (take m g)) (k + e) 0 ≡ get_or g e 0 = at-shifted_from k (take m g) e (k + e) refl ∙ at-take m g e m_degree in
    let last : e + 1 - 1 ≡ e = omega arith in
    let g_ne : get_or g e 0 ≢ 0 = λ z. g_length.leading (omega arith) (ap (λ i. get_or g i 0) last ∙ z) in
    record {
      degree = λ i h.
          at-added_none f c k (take m g) i
          (at-shifted_above k (e + 1) (take m g) i (IsBelowDegree-take m (e + 1) g m_degree g_length.degree) h) ∙ f_degree i (omega (arith, h));
      leading = λ _ z. times-ne-zero c (get_or g e 0) c_in (at_all g e g_in) c_ne g_ne
          (sym (at-added f c k (take m g) (k + e)
          ∙ ap₂ (λ u v. plus u (times c v)) (f_degree (k + e) (omega arith)) there ∙ zero-plus (times c (get_or g e 0)))
          ∙ ap (λ i. get_or (added f c k (take m g)) i 0) (sym here) ∙ z);
    }

-- a later multiple leaves the leading coefficient as it is
pub next_factor_added : (f g : List ℕ) (c k e m n : ℕ) → HasLength n f → HasLength (e + 1) g → e + 1 ≤ m → k + (e + 1) < n
    → HasLength n (added f c k (take m g))
next_factor_added f g c k e m n f_length g_length room lower =
    let m_degree : IsBelowDegree m g = λ i h. g_length.degree i (omega (arith, h, room)) in
    let none : (i : ℕ) → n ≤ i + 1 → get_or (added f c k (take m g)) i 0 ≡ get_or f i 0 =
    λ i h. at-added_none f c k (take m g) i
    (at-shifted_above k (e + 1) (take m g) i (IsBelowDegree-take m (e + 1) g m_degree g_length.degree) (omega (arith, h, lower))) in
    record {
      degree = λ i h. none i (omega (arith, h)) ∙ f_length.degree i h;
      leading = λ some z. f_length.leading some (sym (none (n - 1) (omega (arith, some))) ∙ z);
    }

pub none_added : (p : List ℕ) (c k : ℕ) → k ≤ length p → added p c k [] ≡ p
none_added [] c zero room = refl
none_added (a ∷ p) c zero room = refl
none_added [] c (suc k) room = absurd (omega (arith, room))
none_added (a ∷ p) c (suc k) room =
    ap₂ (λ x xs. x ∷ xs) (ap (plus a) (times-zero c) ∙ plus-zero a) (none_added p c k (omega (arith, room)))

-- ---- the first two remainders

pub power_written : (n m l : ℕ) → l ≡ suc (n + m) → set (replicate l 0) n 1 ≡ shifted n (1 ∷ replicate m 0)
power_written n m zero long = absurd (omega (arith, long))
power_written zero m (suc l) long = ap (λ i. 1 ∷ replicate i 0) (omega (arith, long))
power_written (suc n) m (suc l) long = ap (λ xs. 0 ∷ xs) (power_written n m l (omega (arith, long)))

sums_written : (n : ℕ) (sums : List ℕ) (i : ℕ) → i < n → n ≤ length sums → (m : ℕ) → get_or (take n sums ++ replicate m 0) i 0 ≡ get_or sums i 0
sums_written n sums i below enough m =
    get_or_append_left (take n sums) (replicate m 0) 0 i (omega (arith, below, length-take-le n sums enough)) ∙ get_or-take n sums i 0 below

-- a further sum is written
pub sums_more : (sums : List ℕ) (i l : ℕ) → i < l → i < length sums
    → set (take i sums ++ replicate (l - i) 0) i (get_or sums i 0) ≡ take (i + 1) sums ++ replicate (l - (i + 1)) 0
sums_more sums i l room within =
    let front : length (take i sums) ≡ i = length-take-le i sums (omega (arith, within)) in
    let more : l - i ≡ suc (l - (i + 1)) = omega (arith, room) in
    ap (λ n. set (take i sums ++ replicate n 0) i (get_or sums i 0)) more
    ∙ set_at (take i sums) 0 (replicate (l - (i + 1)) 0) (get_or sums i 0) i front
    ∙ sym (append_assoc (take i sums) (get_or sums i 0 ∷ []) (replicate (l - (i + 1)) 0))
    ∙ ap (λ xs. xs ++ replicate (l - (i + 1)) 0) (sym (take_more sums i 0 within))

-- zeros behind the front of a list have no degree
zeros_degree : (m : ℕ) → IsBelowDegree 0 (replicate m 0)
zeros_degree zero k h = refl
zeros_degree (suc m) zero h = refl
zeros_degree (suc m) (suc k) h = zeros_degree m k (omega arith)

-- ---- one multiple taken out

sum_of-nothing : (p : List ℕ) → sum_of p [] ≡ p
sum_of-nothing [] = refl
sum_of-nothing (a ∷ p) = refl

-- zeros at the end of a multiple add nothing
pub added_front : (p q : List ℕ) (s k m : ℕ) → k + length q ≤ length p → IsBelowDegree m q → added p s k (take m q) ≡ added p s k q
added_front [] q s (suc k) m fits degree = absurd (omega (arith, fits))
added_front (a ∷ p) q s (suc k) m fits degree = ap (λ r. plus a (times s 0) ∷ r) (added_front p q s k m (omega (arith, fits)) degree)
added_front p [] s zero zero fits degree = refl
added_front p [] s zero (suc m) fits degree = refl
added_front [] (c ∷ q) s zero m fits degree = absurd (omega (arith, fits))
added_front (a ∷ p) (c ∷ q) s zero zero fits degree =
    ap₂ (λ b r. b ∷ r)
    (sym (ap (λ e. plus a (times s e)) (degree 0 (omega arith)) ∙ ap (plus a) (times-zero s) ∙ plus-zero a))
    (sym (sum_of-nothing p) ∙ added_front p q s 0 0 (omega (arith, fits)) (λ k h. degree (suc k) (omega arith)))
added_front (a ∷ p) (c ∷ q) s zero (suc m) fits degree =
    ap (λ r. plus a (times s c) ∷ r) (added_front p q s 0 m (omega (arith, fits)) (λ k h. degree (suc k) (omega (arith, h))))

pub reduced_list : (to from : List Gf) (at last : ℕ) (top bottom new : List Gf) (scale inverted k m : ℕ)
    → values new ≡ sum_of (values top) (scaled scale (shifted k (values (take m bottom))))
    → scale ≡ times (get_or to at (record { value = 0 })).value inverted
    → inverted ≡ inverse (get_or from last (record { value = 0 })).value
    → values new ≡ added (values top) (times (get_or (values to) at 0) (inverse (get_or (values from) last 0))) k (take m (values bottom))
reduced_list to from at last top bottom new scale inverted k m sum scale_is inverted_is =
    sum
    ∙ ap₂ (λ s q. added (values top) s k q)
    (scale_is ∙ ap₂ (λ a b. times a b) (sym (at-values to at)) (inverted_is ∙ ap inverse (sym (at-values from last))))
    (values-take m bottom)

-- the coefficients past the leading one add nothing
pub reduced_coefficients : (rest here : Remainder) (new : List Gf) (scale inverted lanes : ℕ) → CanDivide rest here → 48 ≤ length rest.coefficients
    → here.length ≤ lanes → lanes ≤ 32
    → values new ≡ sum_of (values rest.coefficients) (scaled scale (shifted (rest.length - here.length) (values (take lanes here.coefficients))))
    → scale ≡ times (get_or rest.coefficients (rest.length - 1) (record { value = 0 })).value inverted
    → inverted ≡ inverse (get_or here.coefficients (here.length - 1) (record { value = 0 })).value
    → values new ≡ added (values rest.coefficients) (ratio rest here) (rest.length - here.length) (take here.length (values here.coefficients))
reduced_coefficients rest here new scale inverted lanes can room enough most sum scale_is inverted_is =
    let p : List ℕ = values rest.coefficients in
    let q : List ℕ = values here.coefficients in
    let k : ℕ = rest.length - here.length in
    let degree : IsBelowDegree lanes q = λ i h. can.here_length.degree i (omega (arith, h, enough)) in
    reduced_list rest.coefficients here.coefficients (rest.length - 1) (here.length - 1) rest.coefficients here.coefficients new scale inverted k lanes
    sum scale_is inverted_is
    ∙ sym (added_front p (take lanes q) (ratio rest here) k here.length
    (omega (arith, room, can.room, most, length-take-under lanes q, length-values rest.coefficients))
    (IsBelowDegree-take lanes here.length q degree can.here_length.degree))
    ∙ ap (added p (ratio rest here) k) (take-take here.length lanes q enough)

pub reduced_degree : (rest here : Remainder) (new : List ℕ) → CanDivide rest here → here.length ≤ rest.length
    → new ≡ added (values rest.coefficients) (ratio rest here) (rest.length - here.length) (take here.length (values here.coefficients))
    → IsBelowDegree (rest.length - 1) new
reduced_degree rest here new can fits is k h =
    ap (λ xs. get_or xs k 0) is
    ∙ lower_degree (values rest.coefficients) (values here.coefficients) rest.length here.length can.some fits can.rest_length.degree can.here_length.degree
    (at_all (values rest.coefficients) (rest.length - 1) (elements_of (values rest.coefficients) can.rest_in))
    (at_all (values here.coefficients) (here.length - 1) (elements_of (values here.coefficients) can.here_in))
    (can.here_length.leading (omega (arith, can.some))) k h

-- ---- values

pub value_at-sum_of : (p q : List ℕ) (x : ℕ) → value_at (sum_of p q) x ≡ plus (value_at p x) (value_at q x)
value_at-sum_of [] q x = sym (zero-plus (value_at q x))
value_at-sum_of (a ∷ p) [] x = sym (plus-zero (value_at (a ∷ p) x))
value_at-sum_of (a ∷ p) (b ∷ q) x =
    ap (λ u. plus (plus a b) u) (ap (times x) (value_at-sum_of p q x) ∙ times-plus x (value_at p x) (value_at q x))
    ∙ plus_exchange a b (times x (value_at p x)) (times x (value_at q x))

pub value_at-scaled : (c : ℕ) (p : List ℕ) (x : ℕ) → value_at (scaled c p) x ≡ times c (value_at p x)
value_at-scaled c [] x = sym (times-zero c)
value_at-scaled c (a ∷ p) x =
    ap (plus (times c a)) (ap (times x) (value_at-scaled c p x) ∙ times_left_comm x c (value_at p x))
    ∙ sym (times-plus c a (times x (value_at p x)))

pub value_at-shifted : (k : ℕ) (p : List ℕ) (x : ℕ) → Elements p → value_at (shifted k p) x ≡ times (power x k) (value_at p x)
value_at-shifted zero p x p_in = sym (ap (λ u. times u (value_at p x)) (power-zero x) ∙ one-times (value_at p x) (value_at-lt p x p_in))
value_at-shifted (suc k) p x p_in =
    zero-plus (times x (value_at (shifted k p) x)) ∙ ap (times x) (value_at-shifted k p x p_in)
    ∙ sym (times_assoc x (power x k) (value_at p x)) ∙ ap (λ u. times u (value_at p x)) (sym (power-suc x k))

value_at-added : (p : List ℕ) (c k m : ℕ) (q : List ℕ) (x : ℕ) → IsBelowDegree m q → Elements q
    → value_at (added p c k (take m q)) x ≡ plus (value_at p x) (times (times c (power x k)) (value_at q x))
value_at-added p c k m q x degree q_in =
    value_at-sum_of p (scaled c (shifted k (take m q))) x
    ∙ ap (plus (value_at p x))
    (value_at-scaled c (shifted k (take m q)) x
    ∙ ap (times c) (value_at-shifted k (take m q) x (Elements-take m q q_in) ∙ ap (times (power x k)) (value_at-take m q x degree))
    ∙ sym (times_assoc c (power x k) (value_at q x)))

-- the same multiple of the other remainder and its factor cancels out
crossed_more : (r s f g : List ℕ) (c k l m x : ℕ) → IsBelowDegree l s → IsBelowDegree m g → Elements s → Elements g
    → plus (times (value_at (added r c k (take l s)) x) (value_at g x)) (times (value_at s x) (value_at (added f c k (take m g)) x))
    ≡ plus (times (value_at r x) (value_at g x)) (times (value_at s x) (value_at f x))
crossed_more r s f g c k l m x s_degree g_degree s_in g_in =
    let R : ℕ = value_at r x in
    let S : ℕ = value_at s x in
    let F : ℕ = value_at f x in
    let G : ℕ = value_at g x in
    let w : ℕ = times c (power x k) in
    let twice : times S (times w G) ≡ times (times w S) G =
    times_left_comm S w G ∙ sym (times_assoc w S G) in
    ap₂ (λ u v. plus (times u G) (times S v)) (value_at-added r c k l s x s_degree s_in) (value_at-added f c k m g x g_degree g_in)
    ∙ ap₂ (λ u v. plus u v) (plus-times R (times w S) G) (times-plus S F (times w G))
    ∙ plus_exchange (times R G) (times (times w S) G) (times S F) (times S (times w G))
    ∙ ap (plus (plus (times R G) (times S F))) (ap (plus (times (times w S) G)) twice ∙ plus_self (times (times w S) G))
    ∙ plus-zero (plus (times R G) (times S F))

-- ---- a division

pub still_divides : (rest here result : Remainder) → CanDivide rest here → Reduces rest here result → CanDivide result here
still_divides rest here result can reduces = record {
  some = can.some;
  within = omega (arith, can.within, reduces.shorter);
  short = can.short;
  room = omega (arith, can.room, reduces.shorter);
  rest_length = reduces.has_length;
  here_length = can.here_length;
  rest_in = subst (All IsElement) (sym reduces.coefficients)
      (all_of _ (Elements-added (values rest.coefficients) (ratio rest here) (rest.length - here.length) (take here.length (values here.coefficients))
      (elements_of (values rest.coefficients) can.rest_in)));
  here_in = can.here_in;
}

-- what a division has come to: before its first multiple the factor is the earlier one, and then it has
-- the degree that it keeps
pub record IsPartial (t : ℕ) (sums : List ℕ) (above here rest : Remainder) : Type 0 where
  pub is : IsRemainder t sums rest
  pub cross : (x : ℕ) → Crosses t rest here x
  pub factor : ((rest.length ≡ above.length) × IsBelowDegree (2 * t + 1 - above.length) (values rest.factor))
      ⊎ ((rest.length < above.length) × HasLength (2 * t + 2 - here.length) (values rest.factor))

pub partial_none : (t : ℕ) (sums : List ℕ) (above here : Remainder) → AreInARow t sums above here → IsPartial t sums above here above
partial_none t sums above here row = record { is = row.first; cross = row.cross; factor = inl (refl, row.first_factor) }

ratio_nonzero : (rest here : Remainder) → CanDivide rest here → here.length ≤ rest.length → ratio rest here ≢ 0
ratio_nonzero rest here can fits =
    let a : ℕ = get_or (values rest.coefficients) (rest.length - 1) 0 in
    let b : ℕ = get_or (values here.coefficients) (here.length - 1) 0 in
    times-ne-zero a (inverse b) (at_all (values rest.coefficients) (rest.length - 1) (elements_of (values rest.coefficients) can.rest_in)) (inverse-lt b)
    (can.rest_length.leading (omega (arith, can.some, fits)))
    (inverse-ne-zero b (at_all (values here.coefficients) (here.length - 1) (elements_of (values here.coefficients) can.here_in))
    (can.here_length.leading (omega (arith, can.some))))

pub partial_more : (t : ℕ) (sums : List ℕ) (above here rest result : Remainder) → t ≤ 16 → t < here.length → AreInARow t sums above here
    → CanDivide rest here → here.length ≤ rest.length → rest.length ≤ above.length → IsPartial t sums above here rest → Reduces rest here result
    → IsPartial t sums above here result
partial_more t sums above here rest result small enough row can fits at_most partial reduces =
    let k : ℕ = rest.length - here.length in
    let e : ℕ = 2 * t + 1 - above.length in
    let m : ℕ = 16 in
    let f : List ℕ = values rest.factor in
    let g : List ℕ = values here.factor in
    let top : above.length ≤ 2 * t + 1 = row.first.short in
    let g_length : HasLength (e + 1) g = subst (λ n. HasLength n g) (omega (arith, top)) row.second_factor in
    let room : e + 1 ≤ m = omega (arith, top, small, enough, row.shorter) in
    let g_degree : IsBelowDegree m g = λ i h. g_length.degree i (omega (arith, h, room)) in
    let g_in : Elements g = elements_of g row.second.factor_in in
    record {
      is = record {
        leaves = λ i h.
            ap (λ xs. get_or (product xs sums) i 0) reduces.factor
            ∙ added_leaves t sums f (values rest.coefficients) (take m g) (take here.length (values here.coefficients)) (ratio rest here) k
            partial.is.leaves
            (take_leaves t sums g (values here.coefficients) m here.length g_degree can.here_length.degree row.second.leaves) i h
            ∙ ap (λ xs. get_or xs i 0) (sym reduces.coefficients);
        has_length = reduces.has_length;
        short = omega (arith, reduces.shorter, partial.is.short);
        coefficients_in = (still_divides rest here result can reduces).rest_in;
        factor_in = subst (All IsElement) (sym reduces.factor)
            (all_of _ (Elements-added f (ratio rest here) k (take m g) (elements_of f partial.is.factor_in)));
      };
      cross = λ x.
          ap₂ (λ r s. plus (times (value_at r x) (value_at g x)) (times (value_at (values here.coefficients) x) (value_at s x))) reduces.coefficients reduces.factor
          ∙ crossed_more (values rest.coefficients) (values here.coefficients) f g (ratio rest here) k here.length m x can.here_length.degree g_degree
          (elements_of (values here.coefficients) can.here_in) g_in
          ∙ partial.cross x;
      factor = inr (
        omega (arith, reduces.shorter, at_most),
        subst (HasLength (2 * t + 2 - here.length)) (sym reduces.factor)
            (⊎_elim
            (λ (p : (rest.length ≡ above.length) × IsBelowDegree e f).
            subst (λ n. HasLength n (added f (ratio rest here) k (take m g))) (omega (arith, p.0, top, enough, fits))
            (first_factor_added f g (ratio rest here) k e m p.1 g_length (ratio_nonzero rest here can fits) (times-lt _ _) g_in room))
            (λ (p : (rest.length < above.length) × HasLength (2 * t + 2 - here.length) f).
            next_factor_added f g (ratio rest here) k e m (2 * t + 2 - here.length) p.1 g_length room (omega (arith, p.0, top, enough, fits)))
            partial.factor),
      );
    }

pub partial_all : (t : ℕ) (sums : List ℕ) (above here rest : Remainder) → AreInARow t sums above here → IsPartial t sums above here rest
    → rest.length < here.length → AreInARow t sums here rest
partial_all t sums above here rest row partial done = record {
  first = row.second;
  second = partial.is;
  shorter = done;
  first_factor = λ i h. row.second_factor.degree i (omega (arith, h, row.shorter, row.first.short));
  second_factor = ⊎_elim
      (λ (p : (rest.length ≡ above.length) × IsBelowDegree (2 * t + 1 - above.length) (values rest.factor)). absurd (omega (arith, p.0, done, row.shorter)))
      (λ (p : (rest.length < above.length) × HasLength (2 * t + 2 - here.length) (values rest.factor)). p.1)
      partial.factor;
  cross = λ x. plus_comm (times (value_at (values here.coefficients) x) (value_at (values rest.factor) x)) (times (value_at (values rest.coefficients) x) (value_at (values here.factor) x))
      ∙ partial.cross x;
}

-- ---- the whole division

pub can_divide : (t : ℕ) (sums : List ℕ) (above here : Remainder) → t ≤ 16 → t < here.length → AreInARow t sums above here → CanDivide above here
can_divide t sums above here small enough row = record {
  some = omega (arith, enough);
  within = omega (arith, small, row.first.short);
  short = omega (arith, small, row.first.short, row.shorter);
  room = omega (arith, small, enough, row.first.short);
  rest_length = row.first.has_length;
  here_length = row.second.has_length;
  rest_in = row.first.coefficients_in;
  here_in = row.second.coefficients_in;
}

below_one : (x m : ℕ) → IsBelowDegree 1 (x ∷ replicate m 0)
below_one x m zero h = absurd (omega (arith, h))
below_one x m (suc k) h = zeros_degree m k (omega arith)

elements_zeros : (m : ℕ) → Elements (replicate m 0)
elements_zeros zero = tt
elements_zeros (suc m) = (omega arith, elements_zeros m)

elements_one : (m : ℕ) → Elements (1 ∷ replicate m 0)
elements_one m = (omega arith, elements_zeros m)

-- the product with 1
at-product-one : (m : ℕ) (sums : List ℕ) (i : ℕ) → IsElement (get_or sums i 0) → get_or (product (1 ∷ replicate m 0) sums) i 0 ≡ get_or sums i 0
at-product-one m sums zero sum_in = at-product-zero 1 (replicate m 0) sums ∙ one-times (get_or sums 0 0) sum_in
at-product-one m sums (suc i) sum_in =
    at-product-suc 1 (replicate m 0) sums i
    ∙ ap₂ (λ u v. plus u v) (one-times (get_or sums (suc i) 0) sum_in) (at-product-none (replicate m 0) sums i (zeros_degree m))
    ∙ plus-zero (get_or sums (suc i) 0)

elements_front : (n : ℕ) (sums : List ℕ) (m : ℕ) → ((i : ℕ) → i < n → IsElement (get_or sums i 0)) → Elements (take n sums ++ replicate m 0)
elements_front zero sums m sums_in = elements_zeros m
elements_front (suc n) [] m sums_in = elements_zeros m
elements_front (suc n) (x ∷ sums) m sums_in = (sums_in 0 (omega arith), elements_front n sums m (λ i h. sums_in (suc i) (omega (arith, h))))

power_leaves : (t : ℕ) (sums : List ℕ) (m : ℕ) → Leaves t sums (replicate 32 0) (shifted (2 * t) (1 ∷ replicate m 0))
power_leaves t sums m i h =
    at-product-none (replicate 32 0) sums i (zeros_degree 32) ∙ sym (at-shifted_below (2 * t) (1 ∷ replicate m 0) i h)

power_length : (n m : ℕ) → HasLength (n + 1) (shifted n (1 ∷ replicate m 0))
power_length n m = record {
  degree = λ k h. at-shifted_above n 1 (1 ∷ replicate m 0) k (below_one 1 m) h;
  leading = λ _ z.
      let one : get_or (shifted n (1 ∷ replicate m 0)) (n + 1 - 1) 0 ≡ 1 = at-shifted_from n (1 ∷ replicate m 0) 0 (n + 1 - 1) (omega arith) in
      absurd (omega (arith, one, z));
}

value_at-one : (m x : ℕ) → value_at (1 ∷ replicate m 0) x ≡ 1
value_at-one m x = ap (λ u. plus 1 (times x u)) (value_at-none (replicate m 0) x (zeros_degree m)) ∙ ap (plus 1) (times-zero x) ∙ plus-zero 1

first_cross : (n m x v : ℕ) → plus (times (value_at (shifted n (1 ∷ replicate m 0)) x) (value_at (1 ∷ replicate 31 0) x)) (times v (value_at (replicate 32 0) x)) ≡ power x n
first_cross n m x v =
    ap₂ (λ a b. plus a b)
    (ap₂ (λ a b. times a b)
    (value_at-shifted n (1 ∷ replicate m 0) x (elements_one m) ∙ ap (times (power x n)) (value_at-one m x) ∙ times-one (power x n) (power-lt x n))
    (value_at-one 31 x)
    ∙ times-one (power x n) (power-lt x n))
    (ap (times v) (value_at-none (replicate 32 0) x (zeros_degree 32)) ∙ times-zero v)
    ∙ plus-zero (power x n)

pub first_row : (t : ℕ) (sums : List ℕ) (above here : Remainder) → 2 * t ≤ length sums → above.length ≡ 2 * t + 1
    → values above.coefficients ≡ shifted (2 * t) (1 ∷ replicate (47 - 2 * t) 0) → values above.factor ≡ replicate 32 0
    → values here.coefficients ≡ take (2 * t) sums ++ replicate (48 - 2 * t) 0 → HasLength here.length (values here.coefficients)
    → here.length ≤ 2 * t → values here.factor ≡ 1 ∷ replicate 31 0
    → ((i : ℕ) → i < 2 * t → IsElement (get_or sums i 0))
    → AreInARow t sums above here
first_row t sums above here enough top power_is none front has_length short one sums_in = record {
  first = record {
    leaves = λ i h. ap (λ xs. get_or (product xs sums) i 0) none ∙ power_leaves t sums (47 - 2 * t) i h ∙ ap (λ xs. get_or xs i 0) (sym power_is);
    has_length = subst (λ n. HasLength n (values above.coefficients)) (sym top)
        (subst (HasLength (2 * t + 1)) (sym power_is) (power_length (2 * t) (47 - 2 * t)));
    short = omega (arith, top);
    coefficients_in = subst (All IsElement) (sym power_is) (all_of _ (Elements-shifted (2 * t) (1 ∷ replicate (47 - 2 * t) 0) (elements_one (47 - 2 * t))));
    factor_in = subst (All IsElement) (sym none) (all_of (replicate 32 0) (elements_zeros 32));
  };
  second = record {
    leaves = λ i h.
        ap (λ xs. get_or (product xs sums) i 0) one ∙ at-product-one 31 sums i (sums_in i h)
        ∙ sym (sums_written (2 * t) sums i h enough (48 - 2 * t)) ∙ ap (λ xs. get_or xs i 0) (sym front);
    has_length = has_length;
    short = omega (arith, short);
    coefficients_in = subst (All IsElement) (sym front) (all_of _ (elements_front (2 * t) sums (48 - 2 * t) sums_in));
    factor_in = subst (All IsElement) (sym one) (all_of (1 ∷ replicate 31 0) (elements_one 31));
  };
  shorter = omega (arith, top, short);
  first_factor = λ i h. ap (λ xs. get_or xs i 0) none ∙ zeros_degree 32 i (omega arith);
  second_factor = subst (HasLength (2 * t + 2 - above.length)) (sym one)
      (subst (λ n. HasLength n (1 ∷ replicate 31 0)) (omega (arith, top)) (power_length 0 31));
  cross = λ x.
      ap₂ (λ r f. plus (times (value_at r x) (value_at f x)) (times (value_at (values here.coefficients) x) (value_at (values above.factor) x))) power_is one
      ∙ ap (λ f. plus (times (value_at (shifted (2 * t) (1 ∷ replicate (47 - 2 * t) 0)) x) (value_at (1 ∷ replicate 31 0) x)) (times (value_at (values here.coefficients) x) (value_at f x))) none
      ∙ first_cross (2 * t) (47 - 2 * t) x (value_at (values here.coefficients) x);
}

-- the later factor has at most t + 1 coefficients
short_factor : (t : ℕ) (sums : List ℕ) (above here : Remainder) → t ≤ 16 → t < above.length → AreInARow t sums above here
    → IsBelowDegree 17 (values here.factor)
short_factor t sums above here small enough row i h = row.second_factor.degree i (omega (arith, h, small, enough, row.first.short))

pub pair_of : (t : ℕ) (sums : List ℕ) (above here : Remainder) (locator evaluator : List ℕ) → t ≤ 16 → t < above.length → here.length ≤ t
    → AreInARow t sums above here → locator ≡ take 17 (values here.factor) → evaluator ≡ take 16 (values here.coefficients)
    → IsKeyPair t sums locator evaluator
pair_of t sums above here locator evaluator small enough done row first front =
    let here_degree : IsBelowDegree 16 (values here.coefficients) =
    λ i h. row.second.has_length.degree i (omega (arith, h, done, small)) in
    let factor_degree : IsBelowDegree 17 (values here.factor) = short_factor t sums above here small enough row in
    record {
      elements = subst (All IsElement) (sym first) (All-take IsElement 17 (values here.factor) row.second.factor_in);
      locator_degree = λ i h. ap (λ xs. get_or xs i 0) first ∙ at-take 17 (values here.factor) i factor_degree
          ∙ row.second_factor.degree i (omega (arith, h, enough, row.first.short));
      evaluator_degree = λ i h. ap (λ xs. get_or xs i 0) front ∙ at-take 16 (values here.coefficients) i here_degree
          ∙ row.second.has_length.degree i (omega (arith, h, done));
      agrees = λ i h. ap (λ xs. get_or (product xs sums) i 0) first ∙ at-product-take 17 (values here.factor) sums i factor_degree
          ∙ row.second.leaves i h ∙ sym (at-take 16 (values here.coefficients) i here_degree) ∙ ap (λ xs. get_or xs i 0) (sym front);
    }

pub factor_nonzero : (t : ℕ) (sums : List ℕ) (above here : Remainder) (locator : List ℕ) → t ≤ 16 → t < above.length
    → AreInARow t sums above here → locator ≡ take 17 (values here.factor) → IsNonzero locator
factor_nonzero t sums above here locator small enough row first =
    let k : ℕ = 2 * t + 2 - above.length - 1 in (
      k,
      λ z. row.second_factor.leading (omega (arith, row.first.short))
          (sym (ap (λ xs. get_or xs k 0) first ∙ at-take 17 (values here.factor) k (short_factor t sums above here small enough row)) ∙ z),
    )

-- at a root of the locator other than 0 the evaluator isn't 0
pub no_common_root : (t : ℕ) (sums : List ℕ) (above here : Remainder) (locator evaluator : List ℕ) → t ≤ 16 → t < above.length → here.length ≤ t
    → AreInARow t sums above here → locator ≡ take 17 (values here.factor) → evaluator ≡ take 16 (values here.coefficients)
    → (x : ℕ) → IsElement x → x ≢ 0 → value_at locator x ≡ 0 → value_at evaluator x ≢ 0
no_common_root t sums above here locator evaluator small enough done row first front x x_in ne root z =
    let value : value_at (values here.coefficients) x ≡ 0 =
    sym (ap (λ p. value_at p x) front ∙ value_at-take 16 (values here.coefficients) x (λ i h. row.second.has_length.degree i (omega (arith, h, done, small)))) ∙ z in
    let factor_value : value_at (values here.factor) x ≡ 0 =
    sym (ap (λ p. value_at p x) first ∙ value_at-take 17 (values here.factor) x (short_factor t sums above here small enough row)) ∙ root in
    let none : power x (2 * t) ≡ 0 =
    sym (row.cross x)
    ∙ ap₂ (λ u v. plus u v)
    (ap (times (value_at (values above.coefficients) x)) factor_value ∙ times-zero (value_at (values above.coefficients) x))
    (ap (λ u. times u (value_at (values above.factor) x)) value ∙ zero-times (value_at (values above.factor) x))
    ∙ plus-zero 0 in
    power_nonzero x (2 * t) x_in ne none
  where
    power_nonzero : (x n : ℕ) → IsElement x → x ≢ 0 → power x n ≢ 0
    power_nonzero x zero x_in ne z = one_not_zero (power x 0) (power-zero x) z
    power_nonzero x (suc n) x_in ne z =
        times-ne-zero x (power x n) x_in (power-lt x n) ne (power_nonzero x n x_in ne) (sym (power-suc x n) ∙ z)
