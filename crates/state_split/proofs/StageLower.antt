-- Edges to lighter states: of a row, and of the states of the greatest weight.
use Rattle.std.proofs.Common.{◌≡◌, ℕ, ◌+◌, ◌<◌, ◌≤◌, List, [], length, get_or, inl, inr, ap, sym, ◌∙◌, subst, arith}
use Rattle.std.specs.Prelude.{All, Contains}
use Rattle.std.proofs.lemmas.Bool.{cases_lt}
use Rattle.std.proofs.lemmas.List.{get_or-map, get_or_default, length-map}
use Rattle.label_graphs.specs.declared.graph.Edge.{Edge}
use Rattle.label_graphs.specs.Graph.{EdgeData, HasEdge}
use Rattle.label_graphs.specs.Views.{edge_data}
use Rattle.split_spec.specs.Chain.{NeedsRound}
use Rattle.split_spec.proofs.EdgeEnds.{source_inside}
use Rattle.state_split.specs.Views.{edges_data, weighted}

-- an edge leads to a state that weighs less
abbrev pub LeadsLower : List ℕ → ℕ → List EdgeData → Type 0
LeadsLower x most row = (e : EdgeData) × Contains row e × (get_or x e.to 0 < most)

-- it is one of the list
pub lower_here : (x : List ℕ) (most : ℕ) (edges : List (Edge ℕ)) (k : ℕ) (e : Edge ℕ) → k < length edges → e ≡ get_or edges k e → get_or x e.to 0 < most
    → LeadsLower x most (edges_data edges)
lower_here x most edges k e inside at less =
    let f : EdgeData = edge_data (λ name. name) e in
    let size = length-map edges (edge_data (λ name. name)) in
    (f, (k, omega (arith, inside, size), get_or-map (edge_data (λ name. name)) edges k e f inside ∙ ap (edge_data (λ name. name)) (sym at)), less)

-- none of the first edges of a list leads to a state that weighs less
abbrev pub NoneLower : List ℕ → ℕ → List (Edge ℕ) → ℕ → Type 0
NoneLower x most edges n = (k : ℕ) (d : Edge ℕ) → k < n → most ≤ get_or x (get_or edges k d).to 0

-- nor does the next one
pub none_lower_more : (x : List ℕ) (most : ℕ) (edges : List (Edge ℕ)) (n : ℕ) (e : Edge ℕ) → NoneLower x most edges n → n < length edges
    → e ≡ get_or edges n e → most ≤ get_or x e.to 0 → NoneLower x most edges (n + 1)
none_lower_more x most edges n e none inside at high k d low = elim (cases_lt k n) [
  | inl before ↦ none k d before
  | inr past ↦ (
      let last : n ≡ k = omega (arith, low, past) in
      subst (λ j. most ≤ get_or x (get_or edges j d).to 0) last
      (subst (λ (f : Edge ℕ). most ≤ get_or x f.to 0) (at ∙ get_or_default edges n e d inside) high))
]

-- so none of them does
pub none_lower_all : (x : List ℕ) (most : ℕ) (edges : List (Edge ℕ)) (n : ℕ) → NoneLower x most edges n → length edges ≤ n → LeadsLower x most (edges_data edges) → ⊥
none_lower_all x most edges n none all found =
    let f = found.0 in
    let listed = found.1 in
    let size = length-map edges (edge_data (λ name. name)) in
    let inside : listed.0 < length edges = (let low = listed.1 in omega (arith, low, size)) in
    let e : Edge ℕ = record { block = record { value = f.block }; to = f.to } in
    let high = none listed.0 e (omega (arith, inside, all)) in
    let same : (get_or edges listed.0 e).to ≡ f.to =
    ap (λ (g : EdgeData). g.to) (sym (get_or-map (edge_data (λ name. name)) edges listed.0 e f inside) ∙ listed.2) in
    let less = found.2 in
    omega (arith, high, less, ap (λ t. get_or x t 0) same)

-- no state below n that has the greatest weight leads to a lighter one
abbrev pub NoneNeeds : List ℕ → ℕ → List (List EdgeData) → ℕ → Type 0
NoneNeeds x most rows n = (from block to : ℕ) → from < n → get_or x from 0 ≡ most → HasEdge rows from block to → most ≤ get_or x to 0

-- nor does the next one
pub none_needs_more : (x : List ℕ) (most : ℕ) (rows : List (List EdgeData)) (n : ℕ) → NoneNeeds x most rows n
    → (get_or x n 0 ≡ most → LeadsLower x most (get_or rows n []) → ⊥) → NoneNeeds x most rows (n + 1)
none_needs_more x most rows n none here from block to low heaviest edge = elim (cases_lt from n) [
  | inl before ↦ none from block to before heaviest edge
  | inr past ↦ (
      let last : from ≡ n = omega (arith, low, past) in
      let same = ap (λ k. get_or x k 0) last in
      elim (cases_lt (get_or x to 0) most) [
        | inl less ↦ absurd (here (sym same ∙ heaviest)
            (record { block = block; to = to }, subst (λ k. HasEdge rows k block to) last edge, less))
        | inr high ↦ high
      ])
]

-- so the graph needs no round
pub none_needs_round : (x : List ℕ) (most : ℕ) (rows : List (List EdgeData)) (n : ℕ) → NoneNeeds x most rows n → length rows ≤ n
    → All (λ weight. weight ≤ most) x → ((bound : ℕ) → All (λ weight. weight ≤ bound) x → most ≤ bound) → NeedsRound (weighted rows x) → ⊥
none_needs_round x most rows n none all greatest least need =
    let inside = source_inside rows need.from need.block need.to need.edge in
    let low = least (get_or x need.from 0) need.heaviest.most in
    let high = greatest need.from 0 need.heaviest.inside in
    let kept = none need.from need.block need.to (omega (arith, inside, all)) (omega (arith, low, high)) need.edge in
    let lighter = need.lighter in
    omega (arith, kept, lighter, low)
