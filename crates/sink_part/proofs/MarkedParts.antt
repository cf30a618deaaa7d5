-- What the part of a graph that its marked states are keeps of the graph.
use Rattle.std.proofs.Common.{◌≡◌, ℕ, ◌*◌, ◌<◌, List, length, get_or, map, Bool, false, inl, inr, ap, sym, ◌∙◌, subst, arith}
use Rattle.std.specs.Prelude.{slice_index}
use Rattle.std.proofs.lemmas.Bool.{cases_lt, false≢true}
use Rattle.std.proofs.lemmas.List.{get_or-map, length-map}
use Rattle.std.proofs.lemmas.List.Elements.{Contains-get_or, All-contains}
use Rattle.label_graphs.specs.Graph.{EdgeData, HasEdge, IsGraph}
use Rattle.label_graphs.specs.Kept.{marked_states}
use Rattle.label_graphs.specs.Refinement.{KeepsEdges}
use Rattle.label_graphs.specs.Sink.{IsSink, AreEdgesAmong}
use Rattle.label_graphs.specs.Vector.{MeetsInequality, target_sum}
use Rattle.label_graphs.proofs.KeptSums.{kept_sums}
use Rattle.label_graphs.proofs.Renumbered.{target_of}
use Rattle.sink_part.specs.inside.Parts.{IsMarkedPart}
use Rattle.label_graphs.proofs.Marks.{listed_marked}
use Rattle.label_graphs.proofs.Renumbered.{source_of}

pub part_edges : (rows : List (List EdgeData)) (weights : List ℕ) (marks : List Bool) (part : List (List EdgeData)) (part_weights parents : List ℕ)
    → IsMarkedPart rows weights marks part part_weights parents → AreEdgesAmong rows parents part
part_edges rows weights marks part part_weights parents known =
    let size = known.kept.size in
    subst (λ (states : List ℕ). AreEdgesAmong rows states part) (sym known.parents_are)
    (λ from block to from_in to_in. known.kept.edges from block to (omega (arith, from_in, size)) (omega (arith, to_in, size)))

pub part_weights_are : (rows : List (List EdgeData)) (weights : List ℕ) (marks : List Bool) (part : List (List EdgeData)) (part_weights parents : List ℕ)
    → IsMarkedPart rows weights marks part part_weights parents → part_weights ≡ map (λ state. slice_index weights state) parents
part_weights_are rows weights marks part part_weights parents known =
    known.weights_are ∙ ap (map (λ state. slice_index weights state)) (sym known.parents_are)

pub part_keeps_edges : (rows : List (List EdgeData)) (weights : List ℕ) (marks : List Bool) (part : List (List EdgeData)) (part_weights parents : List ℕ)
    → IsMarkedPart rows weights marks part part_weights parents → KeepsEdges part rows parents
part_keeps_edges rows weights marks part part_weights parents known =
    subst (λ (states : List ℕ). KeepsEdges part rows states) (sym known.parents_are)
    (λ from block to edge.
    let from_in = source_of part from block to edge in
    let to_in = target_of part from block to known.graph from_in edge in
    (known.kept.edges from block to from_in to_in).0 edge)

-- the marked states are a sink, so the edges that are left out lead to weight 0
pub part_meets : (rows : List (List EdgeData)) (weights : List ℕ) (marks : List Bool) (part : List (List EdgeData)) (part_weights parents : List ℕ) (n : ℕ)
    → IsGraph rows → length marks ≡ length rows → length weights ≡ length rows → IsSink rows weights (marked_states marks)
    → IsMarkedPart rows weights marks part part_weights parents → MeetsInequality (target_sum rows) n weights → MeetsInequality (target_sum part) n part_weights
part_meets rows weights marks part part_weights parents n graph marked sizes sink known meets =
    let states = marked_states marks in
    let size = known.kept.size in
    subst (λ (x : List ℕ). MeetsInequality (target_sum part) n x) (sym known.weights_are)
    (λ state inside.
    let state_in : state < length states = (let wide = length-map states (λ s. slice_index weights s) in omega (arith, wide, inside)) in
    let s = slice_index states state in
    let listed = Contains-get_or states state 0 state_in in
    let here = All-contains (λ t. (t < length rows) × (0 < slice_index weights t)) states s sink.positive listed in
    let none : (block to : ℕ) → HasEdge rows s block to → get_or marks to false ≡ false → get_or weights to 0 ≡ 0 =
    λ block to edge unmarked. elim (cases_lt 0 (get_or weights to 0)) [
      | inl positive ↦ absurd (false≢true (sym unmarked ∙ listed_marked marks to (sink.closed s block to listed (edge, here.1, positive))))
      | inr low ↦ omega (arith, low)
    ] in
    let sum = kept_sums rows part marks weights state graph known.graph marked known.kept (omega (arith, state_in, size)) none in
    let own : get_or (map (λ s. get_or weights s 0) states) state 0 ≡ get_or weights s 0 = get_or-map (λ s. get_or weights s 0) states state 0 0 state_in in
    let old = meets s (let below = here.0 in omega (arith, below, sizes)) in
    omega (arith, old, sum, ap (λ k. n * k) own))
