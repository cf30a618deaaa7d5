-- Refinements of refinements.
use Rattle.std.proofs.Common.{◌≡◌, ℕ, ◌<◌, List, [], length, get_or, sym, inl, inr, ap, subst, arith}
use Rattle.std.specs.Prelude.{All}
use Rattle.std.proofs.lemmas.Bool.{cases_lt}
use Rattle.std.proofs.lemmas.List.{get_or-map, get_or_past}
use Rattle.label_graphs.specs.Graph.{EdgeData, HasEdge}
use Rattle.label_graphs.specs.Refinement.{KeepsEdges, parents_of}

-- a source and a target of a graph are states of it
ends_inside : (rows : List (List EdgeData)) (from block to : ℕ) → All (All (λ e. e.to < length rows)) rows → HasEdge rows from block to
    → (from < length rows) × (to < length rows)
ends_inside rows from block to targets edge = elim (cases_lt from (length rows)) [
  | inl inside ↦ (
    inside,
    subst (λ (e : EdgeData). e.to < length rows) edge.2
        (targets from [] inside edge.0 (record { block = block; to = to }) edge.1),
  )
  | inr past ↦ absurd (let few = edge.1 in omega (arith, few, sym (ap (λ (es : List EdgeData). length es) (get_or_past rows from [] past))))
]

pub composed_keeps : (fine middle coarse : List (List EdgeData)) (parents grandparents : List ℕ) → length parents ≡ length fine
    → All (All (λ e. e.to < length fine)) fine → KeepsEdges fine middle parents → KeepsEdges middle coarse grandparents
    → KeepsEdges fine coarse (parents_of grandparents parents)
composed_keeps fine middle coarse parents grandparents size targets first second from block to edge =
    let inside = ends_inside fine from block to targets edge in
    let at : (state : ℕ) → state < length fine → get_or (parents_of grandparents parents) state 0 ≡ get_or grandparents (get_or parents state 0) 0 =
    λ state low. get_or-map (λ s. get_or grandparents s 0) parents state 0 0 (omega (arith, low, size)) in
    let kept = second (get_or parents from 0) block (get_or parents to 0) (first from block to edge) in
    subst (λ t. HasEdge coarse (get_or (parents_of grandparents parents) from 0) block t) (sym (at to inside.1))
    (subst (λ s. HasEdge coarse s block (get_or grandparents (get_or parents to 0) 0)) (sym (at from inside.0)) kept)
