-- Walks whose labels follow one another, and walks over more steps.
use Rattle.std.proofs.Common.{List, [], ◌∷◌, ◌++◌, refl, sym, subst}
use Rattle.symbol_base.specs.Walk.{IsWalk}

-- a walk goes on where another ended
pub walk-join :
    {S L : Type 0} (step : S → L → S → Type 0) (u v : List L) (here middle there : S) → IsWalk step here u middle
    → IsWalk step middle v there → IsWalk step here (u ++ v) there
walk-join step [] v here middle there first second = subst (λ s. IsWalk step s v there) (sym first) second
walk-join step (label ∷ u) v here middle there first second =
    (first.0, first.1, walk-join step u v first.0 middle there first.2 second)

-- a walk by labels that follow one another has a state between them
pub walk-part :
    {S L : Type 0} (step : S → L → S → Type 0) (u v : List L) (here there : S) → IsWalk step here (u ++ v) there
    → (middle : S) × IsWalk step here u middle × IsWalk step middle v there
walk-part step [] v here there walk = (here, refl, walk)
walk-part step (label ∷ u) v here there walk =
    let rest = walk-part step u v walk.0 there walk.2 in (rest.0, (walk.0, walk.1, rest.1), rest.2)

-- one more step at the end
pub walk-more :
    {S L : Type 0} (step : S → L → S → Type 0) (labels : List L) (label : L) (here last there : S)
    → IsWalk step here labels last → step last label there → IsWalk step here (labels ++ label ∷ []) there
walk-more step labels label here last there walk more =
    walk-join step labels (label ∷ []) here last there walk (there, more, refl)

-- a walk by at least one label has a last step
pub walk-last :
    {S L : Type 0} (step : S → L → S → Type 0) (labels : List L) (label : L) (here there : S)
    → IsWalk step here (labels ++ label ∷ []) there
    → (last : S) × IsWalk step here labels last × step last label there
walk-last {S = S} step labels label here there walk =
    let parts = walk-part step labels (label ∷ []) here there walk in
    let last : step parts.0 label there = subst (λ (s : S). step parts.0 label s) parts.2.2 parts.2.1 in
    (parts.0, parts.1, last)

-- a walk over some steps is one over others that have these among them
pub walk-told :
    {S L : Type 0} (step other : S → L → S → Type 0) (labels : List L) (here there : S)
    → ((s : S) (l : L) (t : S) → step s l t → other s l t) → IsWalk step here labels there
    → IsWalk other here labels there
walk-told step other [] here there same walk = walk
walk-told step other (label ∷ labels) here there same walk =
    (walk.0, same here label walk.0 walk.1, walk-told step other labels walk.0 there same walk.2)
