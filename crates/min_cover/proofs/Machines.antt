-- Reading by machines: the next states of alike states are alike.
use Rattle.std.proofs.Common.{◌≡◌, ℕ, List, [], ◌∷◌, Option, Some, None, refl, ap, sym, ◌∙◌, is_some, true, false}
use Rattle.std.specs.Option.{option_and_then}
use Rattle.min_cover.specs.inside.Machine.{reads, IsAlike}

-- a word whose first symbol can be read is read on from the next state
pub reads-some :
    {S : Type 0} (step : S → ℕ → Option S) (q : S) (symbol : ℕ) (w : List ℕ) (next : S) → step q symbol ≡ Some next
    → reads step q (symbol ∷ w) ≡ reads step next w
reads-some step q symbol w next e = ap (λ o. option_and_then (λ next. reads step next w) o) e

pub reads-none :
    {S : Type 0} (step : S → ℕ → Option S) (q : S) (symbol : ℕ) (w : List ℕ) → step q symbol ≡ None
    → reads step q (symbol ∷ w) ≡ None
reads-none step q symbol w e = ap (λ o. option_and_then (λ next. reads step next w) o) e

alike_by :
    {S : Type 0} (step : S → ℕ → Option S) (q r : S) (symbol : ℕ) (next : S) (o : Option S) → IsAlike step q r
    → step q symbol ≡ Some next → step r symbol ≡ o
    → (t : S) × (step r symbol ≡ Some t) × IsAlike step next t
alike_by step q r symbol next None alike e f =
    let one : is_some (reads step q (symbol ∷ [])) ≡ true = ap is_some (reads-some step q symbol [] next e) in
    let none : is_some (reads step r (symbol ∷ [])) ≡ false = ap is_some (reads-none step r symbol [] f) in
    let both = alike (symbol ∷ []) in
    let bad : true ≡ false = sym one ∙ both ∙ none in absurd (cc)
alike_by step q r symbol next (Some t) alike e f = (
  t,
  f,
  λ w.
      sym (ap is_some (reads-some step q symbol w next e)) ∙ alike (symbol ∷ w)
      ∙ ap is_some (reads-some step r symbol w t f),
)

-- what one of two alike states reads, the other reads too, and they come to alike states
pub alike-next :
    {S : Type 0} (step : S → ℕ → Option S) (q r : S) (symbol : ℕ) (next : S) → IsAlike step q r
    → step q symbol ≡ Some next → (t : S) × (step r symbol ≡ Some t) × IsAlike step next t
alike-next step q r symbol next alike e = alike_by step q r symbol next (step r symbol) alike e refl
