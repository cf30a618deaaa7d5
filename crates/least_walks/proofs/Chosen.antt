-- The least of the walks of one length, by what can follow.
use Rattle.std.proofs.Common.{◌≡◌, ℕ, ◌+◌, ◌<◌, ◌≤◌, ◌⊎◌, inl, inr, ⊎_elim, List, [], ◌∷◌, ◌++◌, append_assoc, length, get_or, refl, ap, sym, ◌∙◌, subst, arith}
use Rattle.std.proofs.lemmas.Bool.{cases_lt, cases_eq}
use Rattle.symbol_base.specs.Word.{IsSmallerAtFirst}
use Rattle.least_walks.specs.declared.Arc.{Arc}
use Rattle.least_walks.specs.Graph.{Graph, AreArcsOf, no_arc}
use Rattle.least_walks.specs.UnlikeWalk.{HasUnlikeWords}
use Rattle.least_walks.specs.PairGraph.{IsTarget}
use Rattle.least_walks.specs.inside.Layers.{IsUnlikeFromEnd, IsLeastFrom, HasUnlikeWalk, IsLayer, IsUsable, IsFirstUsable}

-- an arc that stands in the list is one of the node's
arc_of :
    (g : Graph) (arcs : List Arc) (arc : Arc) (v m : ℕ) → AreArcsOf g v arcs → m < length arcs → get_or arcs m no_arc ≡ arc
    → g.arc v arc.label arc.to
arc_of g arcs arc v m are below here = subst (λ (a : Arc). g.arc v a.label a.to) here (are.each m below)

-- the arc that a walk begins with is usable
usable_of :
    (g : Graph) (words ahead left v : ℕ) (layer : List ℕ) (arcs : List Arc) (label u m : ℕ) (labels : List ℕ)
    → IsLayer g words ahead left layer → g.arc v label u → get_or arcs m no_arc ≡ record { label = label; to = u }
    → length labels ≡ left → (length labels ≡ ahead → HasUnlikeWords words label) → IsUnlikeFromEnd g words ahead u labels
    → IsUsable words ahead left layer (get_or arcs m no_arc)
usable_of g words ahead left v layer arcs label u m labels is_layer arc here count unlike walk =
    let target : IsTarget g u = (v, label, arc) in
    subst (λ (a : Arc). IsUsable words ahead left layer a) (sym here)
    (record { goes_on = is_layer.all u (is_layer.inside u target) target (labels, count, walk); unlike = λ is. unlike (count ∙ is) })

-- no walk of this length is before the first usable arc with the least walk behind it
least_other :
    (g : Graph) (words ahead left v : ℕ) (layer : List ℕ) (arcs : List Arc) (arc : Arc) (rest other : List ℕ)
    → IsLayer g words ahead left layer → AreArcsOf g v arcs
    → IsFirstUsable words ahead left layer arcs arc → IsLeastFrom g words ahead left arc.to rest
    → length other ≡ left + 1 → IsUnlikeFromEnd g words ahead v other
    → (arc.label ∷ rest ≡ other) ⊎ IsSmallerAtFirst (arc.label ∷ rest) other
least_other g words ahead left v layer arcs arc rest [] is_layer are first best long walk = absurd (omega arith)
least_other g words ahead left v layer arcs arc rest (label ∷ labels) is_layer are first best long walk =
    let count : length labels ≡ left = omega arith in
    let here = are.all label walk.0 walk.1 in
    let label_is = ap (λ (a : Arc). a.label) here.2 in
    let usable = usable_of g words ahead left v layer arcs label walk.0 here.0 labels is_layer walk.1 here.2 count walk.2 walk.3 in
    ⊎_elim
    (λ (before : here.0 < first.place). absurd (first.first here.0 before usable))
    (λ (later : first.place ≤ here.0).
    ⊎_elim
    (λ (same : first.place ≡ here.0).
    let arcs : arc ≡ record { label = label; to = walk.0 } = sym first.is ∙ ap (λ m. get_or arcs m no_arc) same ∙ here.2 in
    let labels_same : arc.label ≡ label = ap (λ (a : Arc). a.label) arcs in
    let to_same : arc.to ≡ walk.0 = ap (λ (a : Arc). a.to) arcs in
    ⊎_elim
    (λ (equal : rest ≡ labels). inl (cc))
    (λ (smaller : IsSmallerAtFirst rest labels). inr (inr (labels_same, smaller)))
    (best.least labels count (subst (λ u. IsUnlikeFromEnd g words ahead u labels) (sym to_same) walk.3)))
    (λ other.
    let less : first.place < here.0 = omega (arith, other, later) in
    let arc_label = ap (λ (a : Arc). a.label) first.is in
    inr (inl (omega (arith, are.ascending first.place here.0 less here.1, arc_label, label_is))))
    (cases_eq first.place here.0))
    (cases_lt here.0 first.place)

-- the first usable arc, and behind it the least walk, are the least walk
least_first :
    (g : Graph) (words ahead left v : ℕ) (layer : List ℕ) (arcs : List Arc) (arc : Arc) (rest : List ℕ)
    → IsLayer g words ahead left layer → AreArcsOf g v arcs
    → IsFirstUsable words ahead left layer arcs arc → IsLeastFrom g words ahead left arc.to rest
    → IsLeastFrom g words ahead (left + 1) v (arc.label ∷ rest)
least_first g words ahead left v layer arcs arc rest is_layer are first best =
    let count : length rest ≡ left = best.count in
    record {
      count = omega arith;
      walk = (arc.to, arc_of g arcs arc v first.place are first.below first.is, λ e. first.usable.unlike (sym count ∙ e), best.walk);
      least = λ other long walk. least_other g words ahead left v layer arcs arc rest other is_layer are first best long walk;
    }

-- a walk begins with a usable arc
pub no_first :
    (g : Graph) (words ahead left v : ℕ) (layer : List ℕ) (arcs : List Arc) (labels : List ℕ) → IsLayer g words ahead left layer
    → AreArcsOf g v arcs
    → ((m : ℕ) → m < length arcs → IsUsable words ahead left layer (get_or arcs m no_arc) → ⊥)
    → length labels ≡ left + 1 → IsUnlikeFromEnd g words ahead v labels → ⊥
no_first g words ahead left v layer arcs [] is_layer are none long walk = absurd (omega arith)
no_first g words ahead left v layer arcs (label ∷ labels) is_layer are none long walk =
    let count : length labels ≡ left = omega arith in
    let here = are.all label walk.0 walk.1 in
    none here.0 here.1 (usable_of g words ahead left v layer arcs label walk.0 here.0 labels is_layer walk.1 here.2 count walk.2 walk.3)

none_longer : (other : List ℕ) → length other ≡ 0 → ([] ≡ other) ⊎ IsSmallerAtFirst [] other
none_longer [] none = inl refl
none_longer (label ∷ other) none = absurd (omega arith)

-- every node has the empty walk, which is the least of length 0
pub least_none : (g : Graph) (words ahead v : ℕ) → IsLeastFrom g words ahead 0 v []
least_none g words ahead v = record { count = refl; walk = tt; least = λ other none walk. none_longer other none }

-- the choice goes on: what is least behind the next arc is least behind this one
pub best_more :
    (g : Graph) (words ahead len start left v : ℕ) (labels : List ℕ) (layer : List ℕ) (arcs : List Arc) (arc : Arc)
    → IsLayer g words ahead left layer → AreArcsOf g v arcs → IsFirstUsable words ahead left layer arcs arc
    → ((rest : List ℕ) → IsLeastFrom g words ahead (left + 1) v rest → IsLeastFrom g words ahead len start (labels ++ rest))
    → (rest : List ℕ) → IsLeastFrom g words ahead left arc.to rest
    → IsLeastFrom g words ahead len start ((labels ++ arc.label ∷ []) ++ rest)
best_more g words ahead len start left v labels layer arcs arc is_layer are first best rest least =
    subst (λ xs. IsLeastFrom g words ahead len start xs) (sym (append_assoc labels (arc.label ∷ []) rest))
    (best (arc.label ∷ rest) (least_first g words ahead left v layer arcs arc rest is_layer are first least))

-- where the first arc leads to there is a walk
pub more_begins :
    (g : Graph) (words ahead left v : ℕ) (layer : List ℕ) (arcs : List Arc) (arc : Arc) → IsLayer g words ahead left layer
    → AreArcsOf g v arcs → IsFirstUsable words ahead left layer arcs arc → (arc.to < g.nodes) × HasUnlikeWalk g words ahead left arc.to
more_begins g words ahead left v layer arcs arc is_layer are first =
    let to_is = ap (λ (a : Arc). a.to) first.is in
    let inside : arc.to < g.nodes = omega (arith, to_is, are.inside first.place first.below) in
    (inside, is_layer.has arc.to inside first.usable.goes_on)
