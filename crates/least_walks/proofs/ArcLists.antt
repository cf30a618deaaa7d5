-- Lists of the arcs of a node that are made label by label.
use Rattle.std.proofs.Common.{◌≡◌, ℕ, ◌+◌, ◌<◌, ◌≤◌, ⊎_elim, List, [], ◌∷◌, ◌++◌, length, length-append, get_or, ap, refl, sym, ◌∙◌, subst, arith}
use Rattle.std.proofs.lemmas.Bool.{cases_lt, cases_eq}
use Rattle.std.proofs.lemmas.List.{get_or_append_left, get_or_push}
use Rattle.least_walks.specs.declared.Arc.{Arc}
use Rattle.least_walks.specs.Graph.{Graph, AreArcsOf, AreArcsBelow, no_arc}

-- no arc has a label below 0
pub arcs_none : (g : Graph) (v : ℕ) → AreArcsBelow g v 0 []
arcs_none g v = record {
  below = λ k less. absurd (omega (arith, less));
  each = λ k less. absurd (omega (arith, less));
  all = λ label u less arc. absurd (omega (arith, less));
  ascending = λ k m before less. absurd (omega (arith, less));
  inside = λ k less. absurd (omega (arith, less));
}

-- where no arc has a label between the bounds
pub arcs_skip :
    (g : Graph) (v bound higher : ℕ) (arcs : List Arc) → AreArcsBelow g v bound arcs → bound ≤ higher
    → ((label u : ℕ) → bound ≤ label → label < higher → g.arc v label u → ⊥) → AreArcsBelow g v higher arcs
arcs_skip g v bound higher arcs are most none = record {
  below = λ k less. omega (arith, are.below k less, most);
  each = are.each;
  all =
      λ label u less arc.
      ⊎_elim (λ (before : label < bound). are.all label u before arc)
      (λ (later : bound ≤ label). absurd (none label u later less arc)) (cases_lt label bound);
  ascending = are.ascending;
  inside = are.inside;
}

-- what holds of each arc and of one more holds of all
each_pushed :
    (P : Arc → Type 0) (arcs : List Arc) (arc : Arc) → ((k : ℕ) → k < length arcs → P (get_or arcs k no_arc)) → P arc
    → (k : ℕ) → k < length (arcs ++ arc ∷ []) → P (get_or (arcs ++ arc ∷ []) k no_arc)
each_pushed P arcs arc each last k less =
    ⊎_elim
    (λ (before : k < length arcs). subst P (sym (get_or_append_left arcs (arc ∷ []) no_arc k before)) (each k before))
    (λ (later : length arcs ≤ k).
    subst P (sym (get_or_push arcs arc no_arc k (omega (arith, later, less, length-append arcs (arc ∷ []))))) last)
    (cases_lt k (length arcs))

-- the next arc, where no other has its label or one between
pub arcs_push :
    (g : Graph) (v bound : ℕ) (arcs : List Arc) (arc : Arc) → AreArcsBelow g v bound arcs → bound ≤ arc.label
    → g.arc v arc.label arc.to → arc.to < g.nodes
    → ((label u : ℕ) → bound ≤ label → label < arc.label → g.arc v label u → ⊥)
    → ((u : ℕ) → g.arc v arc.label u → arc.to ≡ u) → AreArcsBelow g v (arc.label + 1) (arcs ++ arc ∷ [])
arcs_push g v bound arcs arc are most is inside none one =
    let longer : length (arcs ++ arc ∷ []) ≡ length arcs + 1 = length-append arcs (arc ∷ []) in
    record {
      below =
          each_pushed (λ a. a.label < arc.label + 1) arcs arc (λ k less. omega (arith, are.below k less, most)) (omega arith);
      each = each_pushed (λ a. g.arc v a.label a.to) arcs arc are.each is;
      all =
          λ label u less here.
          ⊎_elim
          (λ (before : label < bound).
          let found = are.all label u before here in (
            found.0,
            omega (arith, found.1, longer),
            get_or_append_left arcs (arc ∷ []) no_arc found.0 found.1 ∙ found.2,
          ))
          (λ (later : bound ≤ label).
          ⊎_elim
          (λ (same : arc.label ≡ label).
          let to : arc.to ≡ u = one u (subst (λ l. g.arc v l u) (sym same) here) in (
            length arcs,
            omega (arith, longer),
            get_or_push arcs arc no_arc (length arcs) refl
                ∙ ap (λ (l : ℕ). let a : Arc = record { label = l; to = arc.to } in a) same
                ∙ ap (λ (n : ℕ). let a : Arc = record { label = label; to = n } in a) to,
          ))
          (λ unlike. absurd (none label u later (omega (arith, less, unlike)) here))
          (cases_eq arc.label label))
          (cases_lt label bound);
      ascending =
          λ k m before less.
          ⊎_elim
          (λ (inner : m < length arcs).
          subst (λ (a : Arc). (get_or (arcs ++ arc ∷ []) k no_arc).label < a.label) (sym (get_or_append_left arcs (arc ∷ []) no_arc m inner))
          (subst (λ (a : Arc). a.label < (get_or arcs m no_arc).label) (sym (get_or_append_left arcs (arc ∷ []) no_arc k (omega (arith, before, inner))))
          (are.ascending k m before inner)))
          (λ (last : length arcs ≤ m).
          let earlier : k < length arcs = omega (arith, before, last, less, longer) in
          let below : (get_or arcs k no_arc).label < bound = are.below k earlier in
          subst (λ (a : Arc). (get_or (arcs ++ arc ∷ []) k no_arc).label < a.label) (sym (get_or_push arcs arc no_arc m (omega (arith, last, less, longer))))
          (subst (λ (a : Arc). a.label < arc.label) (sym (get_or_append_left arcs (arc ∷ []) no_arc k earlier)) (omega (arith, below, most))))
          (cases_lt m (length arcs));
      inside = each_pushed (λ a. a.to < g.nodes) arcs arc are.inside inside;
    }

-- where all labels are below the bound
pub arcs_all :
    (g : Graph) (v bound : ℕ) (arcs : List Arc) → AreArcsBelow g v bound arcs
    → ((label u : ℕ) → g.arc v label u → label < bound) → AreArcsOf g v arcs
arcs_all g v bound arcs are most = record {
  each = are.each;
  all = λ label u arc. are.all label u (most label u arc) arc;
  ascending = are.ascending;
  inside = are.inside;
}
