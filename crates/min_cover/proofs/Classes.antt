-- Classes of states by rounds: what is stable and told apart is the classes of states that read the same words.
use Rattle.std.proofs.Common.{◌≡◌, ◌≢◌, ℕ, ◌<◌, ◌⊎◌, inl, inr, List, [], ◌∷◌, Option, Some, None, refl, ap, sym, ◌∙◌, is_some, true, false}
use Rattle.std.specs.Option.{option_map}
use Rattle.min_cover.specs.inside.Machine.{reads, IsAlike, IsApart, IsStable, IsTold, IsRound, IsClosed}
use Rattle.min_cover.proofs.Machines.{reads-some, reads-none}

stable_by :
    (step : ℕ → ℕ → Option ℕ) (count : ℕ) (class : ℕ → ℕ) → IsClosed step count → (q r symbol : ℕ) (w : List ℕ)
    → ((p t : ℕ) → p < count → t < count → class p ≡ class t → is_some (reads step p w) ≡ is_some (reads step t w))
    → (a b : Option ℕ) → q < count → r < count → step q symbol ≡ a → step r symbol ≡ b
    → option_map class a ≡ option_map class b
    → is_some (reads step q (symbol ∷ w)) ≡ is_some (reads step r (symbol ∷ w))
stable_by step count class closed q r symbol w rest None None q_in r_in e f same =
    ap is_some (reads-none step q symbol w e) ∙ sym (ap is_some (reads-none step r symbol w f))
stable_by step count class closed q r symbol w rest None (Some t) q_in r_in e f same = absurd (cc)
stable_by step count class closed q r symbol w rest (Some p) None q_in r_in e f same = absurd (cc)
stable_by step count class closed q r symbol w rest (Some p) (Some t) q_in r_in e f same =
    let next : class p ≡ class t = cc in
    ap is_some (reads-some step q symbol w p e)
    ∙ rest p t (closed q symbol p q_in e) (closed r symbol t r_in f) next
    ∙ sym (ap is_some (reads-some step r symbol w t f))

-- states of one stable class read the same words
pub stable-alike :
    (step : ℕ → ℕ → Option ℕ) (count : ℕ) (class : ℕ → ℕ) → IsStable step count class → IsClosed step count → (q r : ℕ)
    → q < count → r < count → class q ≡ class r → IsAlike step q r
stable-alike step count class stable closed q r q_in r_in e [] = refl
stable-alike step count class stable closed q r q_in r_in e (symbol ∷ w) =
    stable_by step count class closed q r symbol w
    (λ p t p_in t_in same. stable-alike step count class stable closed p t p_in t_in same w)
    (step q symbol) (step r symbol) q_in r_in refl refl
    (stable q r symbol q_in r_in e)

apart_by :
    (step : ℕ → ℕ → Option ℕ) (count : ℕ) (class : ℕ → ℕ) → IsTold step count class → IsClosed step count
    → (q r symbol : ℕ) (a b : Option ℕ) → q < count → r < count → step q symbol ≡ a → step r symbol ≡ b
    → option_map class a ≢ option_map class b → IsApart step q r
apart_by step count class told closed q r symbol None None q_in r_in e f differ = absurd (differ refl)
apart_by step count class told closed q r symbol None (Some t) q_in r_in e f differ =
    let none : is_some (reads step q (symbol ∷ [])) ≡ false = ap is_some (reads-none step q symbol [] e) in
    let one : is_some (reads step r (symbol ∷ [])) ≡ true = ap is_some (reads-some step r symbol [] t f) in
    (symbol ∷ [], λ same. let bad : false ≡ true = sym none ∙ same ∙ one in absurd (cc))
apart_by step count class told closed q r symbol (Some p) None q_in r_in e f differ =
    let one : is_some (reads step q (symbol ∷ [])) ≡ true = ap is_some (reads-some step q symbol [] p e) in
    let none : is_some (reads step r (symbol ∷ [])) ≡ false = ap is_some (reads-none step r symbol [] f) in
    (symbol ∷ [], λ same. let bad : true ≡ false = sym one ∙ same ∙ none in absurd (cc))
apart_by step count class told closed q r symbol (Some p) (Some t) q_in r_in e f differ =
    let apart = told p t (closed q symbol p q_in e) (closed r symbol t r_in f) (λ same. differ (ap Some same)) in (
      symbol ∷ apart.0,
      λ same. apart.1 (
          sym (ap is_some (reads-some step q symbol apart.0 p e)) ∙ same
          ∙ ap is_some (reads-some step r symbol apart.0 t f)),
    )

told_by :
    (step : ℕ → ℕ → Option ℕ) (count : ℕ) (class : ℕ → ℕ) → IsTold step count class → IsClosed step count
    → (q r : ℕ) → q < count → r < count
    → (class q ≢ class r) ⊎ ((symbol : ℕ) × (option_map class (step q symbol) ≢ option_map class (step r symbol)))
    → IsApart step q r
told_by step count class told closed q r q_in r_in (inl differ) = told q r q_in r_in differ
told_by step count class told closed q r q_in r_in (inr found) =
    apart_by step count class told closed q r found.0 (step q found.0) (step r found.0) q_in r_in refl refl found.1

-- a round keeps that states of two classes are told apart
pub round-told :
    (step : ℕ → ℕ → Option ℕ) (count : ℕ) (class finer : ℕ → ℕ) → IsClosed step count → IsRound step count class finer
    → IsTold step count class → IsTold step count finer
round-told step count class finer closed round told q r q_in r_in differ =
    told_by step count class told closed q r q_in r_in (round.other q r q_in r_in differ)

-- a round that leaves the classes as they were shows them stable
pub round-stable :
    (step : ℕ → ℕ → Option ℕ) (count : ℕ) (class finer : ℕ → ℕ) → IsRound step count class finer
    → ((q : ℕ) → q < count → finer q ≡ class q) → IsStable step count class
round-stable step count class finer round kept q r symbol q_in r_in same =
    (round.same q r q_in r_in (kept q q_in ∙ same ∙ sym (kept r r_in))).1 symbol
