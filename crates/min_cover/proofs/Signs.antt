-- A round by signs: a state's sign is its class and the classes that its symbols lead to.
use Rattle.std.proofs.Common.{◌≡◌, ◌≢◌, ℕ, zero, suc, ◌+◌, ◌<◌, ◌≤◌, ◌⊎◌, inl, inr, List, ◌∷◌, Option, Some, None, refl, ap, sym, ◌∙◌, subst, arith}
use Rattle.std.specs.Prelude.{map}
use Rattle.std.specs.Option.{option_map}
use Rattle.std.specs.List.{range_with_len}
use Rattle.std.proofs.lemmas.Bool.{cases_eq, cases_lt}
use Rattle.min_cover.specs.inside.Machine.{IsRound}
use Rattle.min_cover.specs.inside.Search.{sign_of, target_sign, IsBySigns}

sign_same : (class : ℕ → ℕ) (a b : Option ℕ) → target_sign class a ≡ target_sign class b → option_map class a ≡ option_map class b
sign_same class None None e = refl
sign_same class None (Some t) e = absurd (omega (arith, e))
sign_same class (Some p) None e = absurd (omega (arith, e))
sign_same class (Some p) (Some t) e = let same : class p ≡ class t = omega (arith, e) in ap Some same

same_sign : (class : ℕ → ℕ) (a b : Option ℕ) → option_map class a ≡ option_map class b → target_sign class a ≡ target_sign class b
same_sign class None None e = refl
same_sign class None (Some t) e = absurd (cc)
same_sign class (Some p) None e = absurd (cc)
same_sign class (Some p) (Some t) e = let same : class p ≡ class t = cc in ap suc same

cons_parts : (s t : ℕ) (v w : List ℕ) → s ∷ v ≡ t ∷ w → (s ≡ t) × (v ≡ w)
cons_parts s t v w e = (cc, cc)

at_by : (f g : ℕ → ℕ) (a n x : ℕ) → f a ≡ g a → a ≤ x → (a + 1 ≤ x → f x ≡ g x) → (x ≡ a) ⊎ (x ≢ a) → f x ≡ g x
at_by f g a n x here low rest (inl same) = subst (λ y. f y ≡ g y) (sym same) here
at_by f g a n x here low rest (inr differ) = rest (omega (arith, low, differ))

map_at : (f g : ℕ → ℕ) (a n : ℕ) → map f (range_with_len a n) ≡ map g (range_with_len a n) → (x : ℕ) → a ≤ x → x < a + n → f x ≡ g x
map_at f g a zero e x low high = absurd (omega (arith, low, high))
map_at f g a (suc n) e x low high =
    let parts = cons_parts (f a) (g a) (map f (range_with_len (a + 1) n)) (map g (range_with_len (a + 1) n)) e in
    at_by f g a n x parts.0 low (λ more. map_at f g (a + 1) n parts.1 x more (omega (arith, high))) (cases_eq x a)

differ_by :
    (f g : ℕ → ℕ) (a : ℕ) (v w : List ℕ) → f a ∷ v ≢ g a ∷ w → (v ≢ w → (x : ℕ) × (f x ≢ g x))
    → (f a ≡ g a) ⊎ (f a ≢ g a) → (x : ℕ) × (f x ≢ g x)
differ_by f g a v w differ rest (inl same) =
    rest (λ tails. differ (ap (λ x. x ∷ v) same ∙ ap (λ x. g a ∷ x) tails))
differ_by f g a v w differ rest (inr other) = (a, other)

map_differ :
    (f g : ℕ → ℕ) (a n : ℕ) → map f (range_with_len a n) ≢ map g (range_with_len a n) → (x : ℕ) × (f x ≢ g x)
map_differ f g a zero differ = absurd (differ refl)
map_differ f g a (suc n) differ =
    differ_by f g a (map f (range_with_len (a + 1) n)) (map g (range_with_len (a + 1) n)) differ
    (λ tails. map_differ f g (a + 1) n tails) (cases_eq (f a) (g a))

beyond :
    (step : ℕ → ℕ → Option ℕ) (alphabet count : ℕ) (class : ℕ → ℕ) (q r symbol : ℕ) → q < count → r < count
    → ((q symbol : ℕ) → q < count → alphabet ≤ symbol → step q symbol ≡ None)
    → map (λ s. target_sign class (step q s)) (range_with_len 0 alphabet)
    ≡ map (λ s. target_sign class (step r s)) (range_with_len 0 alphabet)
    → (symbol < alphabet) ⊎ (alphabet ≤ symbol)
    → target_sign class (step q symbol) ≡ target_sign class (step r symbol)
beyond step alphabet count class q r symbol q_in r_in over e (inl less) =
    map_at (λ s. target_sign class (step q s)) (λ s. target_sign class (step r s)) 0 alphabet e symbol (omega arith)
    (omega (arith, less))
beyond step alphabet count class q r symbol q_in r_in over e (inr more) =
    ap (target_sign class) (over q symbol q_in more ∙ sym (over r symbol r_in more))

other_by :
    (step : ℕ → ℕ → Option ℕ) (alphabet : ℕ) (class : ℕ → ℕ) (q r : ℕ)
    → sign_of step alphabet class q ≢ sign_of step alphabet class r → (class q ≡ class r) ⊎ (class q ≢ class r)
    → (class q ≢ class r) ⊎ ((symbol : ℕ) × (option_map class (step q symbol) ≢ option_map class (step r symbol)))
other_by step alphabet class q r differ (inr other) = inl other
other_by step alphabet class q r differ (inl same) =
    let f = λ (s : ℕ). target_sign class (step q s) in
    let g = λ (s : ℕ). target_sign class (step r s) in
    let place = map_differ f g 0 alphabet (λ tails.
    differ (ap (λ x. x ∷ map f (range_with_len 0 alphabet)) same ∙ ap (λ x. class r ∷ x) tails)) in
    inr (place.0, λ e. place.1 (same_sign class (step q place.0) (step r place.0) e))

-- a round by signs is a round
pub signs-round :
    (step : ℕ → ℕ → Option ℕ) (alphabet count : ℕ) (class finer : ℕ → ℕ) → IsBySigns step alphabet count class finer
    → IsRound step count class finer
signs-round step alphabet count class finer signs = record {
  same = λ q r q_in r_in e.
      let signed = signs.same q r q_in r_in e in
      let parts = cons_parts (class q) (class r)
      (map (λ s. target_sign class (step q s)) (range_with_len 0 alphabet))
      (map (λ s. target_sign class (step r s)) (range_with_len 0 alphabet)) signed in (
        parts.0,
        λ symbol. sign_same class (step q symbol) (step r symbol)
            (beyond step alphabet count class q r symbol q_in r_in signs.over parts.1 (cases_lt symbol alphabet)),
      );
  other = λ q r q_in r_in e.
      other_by step alphabet class q r (λ signed. e (signs.told q r q_in r_in signed)) (cases_eq (class q) (class r));
}
