-- The graph and its edges are read exactly where they ascend.
use Rattle.std.proofs.Common.{◌≡◌, ℕ, zero, suc, ◌-◌, ◌^◌, ◌<◌, ◌≤◌, true, cond, List, [], ◌∷◌, ◌++◌, length, Option, Some, None, refl, ap, ◌∙◌, subst, arith, append_assoc, inl, inr}
use Rattle.std.specs.Prelude.{IfSome, codes}
use Rattle.std.proofs.lemmas.Bool.Decides.{nat_tests}
use Rattle.constraint_spec.specs.declared.GraphEdge.{GraphEdge}
use Rattle.constraint_spec.specs.Ranges.{IsEdgeBefore}
use Rattle.constraint_spec.proofs.EdgeOrder.{edge_before_from, edge_before_to}
use Rattle.code_text_spec.specs.CodeText.{edge_line}
use Rattle.code_text_spec.specs.LineRules.{Place, at_words, at_edges, IsGraphSize, Keeps, keeps_graph, keeps_edge, IsEnd}
use Rattle.text_reading.specs.Reading.{field_at, both}
use Rattle.text_reading.specs.Reader.{Reads}
use Rattle.text_reading.specs.LineReader.{one_line, ReadsLines, lines_along, HoldsAlong, after_all}
use Rattle.text_reading.proofs.Steps.{bind_some, guard_some}
use Rattle.text_reading.proofs.Readers.{field_reads}
use Rattle.text_reading.proofs.Composed.{both_read}
use Rattle.text_reading.proofs.LineReaders.{one_line_reads, parts_read}
use Rattle.code_tables.specs.inside.Reading.{least_edges, most_edges, graph_at, edge_follows, edge_fields_at, edge_from, edge_at, edges_at}
use Rattle.code_tables.proofs.LineKinds.{field_text, IsRange, IsNext, ends_at_row}
use Rattle.code_tables.proofs.TableLines.{two_numbers, two_numbers_read}

-- ---- the sizes of the graph

abbrev pub IsGraph : ℕ × ℕ → Type 0
IsGraph graph = IsRange 0 256 graph.0 × IsRange (least_edges graph.0) (most_edges graph.0) graph.1

one_edge : (states : ℕ) → least_edges (suc states) ≡ 1
one_edge states = grind (arith, nat_tests)

many_edges : (states : ℕ) → most_edges (suc states) ≡ 2048
many_edges states = grind (arith, nat_tests)

pub sizes_from : (states edges : ℕ) → IsGraph (states, edges) → IsGraphSize states edges
sizes_from zero edges is = inl (refl, omega (arith, is.1.1))
sizes_from (suc states) edges is = inr (omega arith, is.0.1, omega (arith, is.1.0, one_edge states), omega (arith, is.1.1, many_edges states))

pub sizes_to : (states edges : ℕ) → IsGraphSize states edges → IsGraph (states, edges)
sizes_to zero edges (inl none) = ((omega arith, omega arith), (omega arith, omega (arith, none.1)))
sizes_to zero edges (inr some) = absurd (omega (arith, some.0))
sizes_to (suc states) edges (inl none) = absurd (omega (arith, none.0))
sizes_to (suc states) edges (inr some) = ((omega arith, some.1), (omega (arith, some.2, one_edge states), omega (arith, some.3, many_edges states)))

graph_kept : (before : Option (List ℕ)) (text : List ℕ) (next : Place) → Keeps (at_words zero before) text next → (graph : ℕ × ℕ) × IsGraph graph × (text ≡ two_numbers (codes "graph") graph)
graph_kept before text next (keeps_graph b states edges sizes) = ((states, edges), sizes_to states edges sizes, refl)

pub few_edges : (states : ℕ) → most_edges states < 10 ^ 18
few_edges zero = omega arith
few_edges (suc states) = omega (arith, many_edges states)

pub graph_text_reads : Reads graph_at (λ graph. two_numbers (codes "graph") graph ++ 10 ∷ []) IsGraph
unfolding graph_at
graph_text_reads = two_numbers_read (codes "graph") 0 256 least_edges most_edges (omega arith) few_edges

pub graph_line_reads : (before : Option (List ℕ)) → ReadsLines Keeps IsEnd (one_line graph_at) (λ graph. two_numbers (codes "graph") graph ∷ []) IsGraph (at_words zero before) (λ graph. at_edges graph.0 graph.1 None)
graph_line_reads before =
    one_line_reads Keeps IsEnd graph_at (two_numbers (codes "graph")) IsGraph (at_words zero before) (λ graph. at_edges graph.0 graph.1 None) graph_text_reads
    (λ graph is. keeps_graph before graph.0 graph.1 (sizes_from graph.0 graph.1 is)) (graph_kept before) (ends_at_row (at_words zero before))

-- ---- the edges

edge_follows_from : (before : Option GraphEdge) (e : GraphEdge) → edge_follows before e ≡ true → IfSome before (λ b. IsEdgeBefore b e)
edge_follows_from None e h = tt
edge_follows_from (Some b) e h = edge_before_from b e h

edge_follows_to : (before : Option GraphEdge) (e : GraphEdge) → IfSome before (λ b. IsEdgeBefore b e) → edge_follows before e ≡ true
edge_follows_to None e h = refl
edge_follows_to (Some b) e h = edge_before_to b e h

abbrev pub EdgeFields : Type 0
EdgeFields = ℕ × (ℕ × ℕ)

abbrev pub AreEdgeFields : ℕ → EdgeFields → Type 0
AreEdgeFields states x = IsRange 0 (states - 1) x.0 × (IsRange 0 1 x.1.0 × IsRange 0 (states - 1) x.1.1)

abbrev pub edge_fields_text : EdgeFields → List ℕ
edge_fields_text x = field_text 32 x.0 ++ (field_text 32 x.1.0 ++ field_text 10 x.1.1)

edge_fields_read : (states : ℕ) → states ≤ 256 → Reads (edge_fields_at states) edge_fields_text (AreEdgeFields states)
unfolding edge_fields_at
edge_fields_read states few =
    both_read (field_at 32 0 (states - 1)) (λ from. both (field_at 32 0 1) (λ label. field_at 10 0 (states - 1))) (field_text 32) (λ from x. field_text 32 x.0 ++ field_text 10 x.1) (IsRange 0 (states - 1)) (λ from x. IsRange 0 1 x.0 × IsRange 0 (states - 1) x.1)
    (field_reads 32 0 (states - 1) refl (omega arith)) (λ from is.
    both_read (field_at 32 0 1) (λ label. field_at 10 0 (states - 1)) (field_text 32) (λ label. field_text 10) (IsRange 0 1) (λ label. IsRange 0 (states - 1))
    (field_reads 32 0 1 refl (omega arith)) (λ label is. field_reads 10 0 (states - 1) refl (omega arith)))

abbrev pub IsEdgeBelow : ℕ → GraphEdge → Type 0
IsEdgeBelow states e = (e.from < states) × (e.label < 2) × (e.to < states)

abbrev pub IsNextEdge : ℕ → Option GraphEdge → GraphEdge → Type 0
IsNextEdge states = IsNext (IsEdgeBelow states) IsEdgeBefore

edge_text : (e : GraphEdge) → edge_fields_text (e.from, (e.label, e.to)) ≡ edge_line e ++ 10 ∷ []
edge_text e = simp append_assoc refl

edge_again : (states : ℕ) → states ≤ 256 → (before : Option GraphEdge) (e : GraphEdge) (rest : List ℕ) → IsNextEdge states before e → edge_at states before ((edge_line e ++ 10 ∷ []) ++ rest) ≡ Some (e, rest)
unfolding edge_at
edge_again states few before e rest is =
    let range : AreEdgeFields states (e.from, (e.label, e.to)) = ((omega arith, omega (arith, is.0.0)), ((omega arith, omega (arith, is.0.1)), (omega arith, omega (arith, is.0.2)))) in
    rw (← edge_text e, (edge_fields_read states few).again (e.from, (e.label, e.to)) rest range, edge_follows_to before e is.1) refl

edge_takes : (states : ℕ) → states ≤ 256 → 1 ≤ states → (before : Option GraphEdge) (bytes : List ℕ) (e : GraphEdge) (rest : List ℕ) → edge_at states before bytes ≡ Some (e, rest) → (bytes ≡ (edge_line e ++ 10 ∷ []) ++ rest) × IsNextEdge states before e
unfolding edge_at
edge_takes states few some before bytes e rest h =
    let one : (x : EdgeFields × List ℕ) × (edge_fields_at states bytes ≡ Some x) × (cond (edge_follows before (edge_from x.0)) (Some (edge_from x.0, x.1)) None ≡ Some (e, rest)) =
    bind_some (edge_fields_at states bytes) (λ x. cond (edge_follows before (edge_from x.0)) (Some (edge_from x.0, x.1)) None) (e, rest) h in
    let x : EdgeFields × List ℕ = one.0 in
    let test = guard_some (edge_follows before (edge_from x.0)) (edge_from x.0, x.1) (e, rest) one.2 in
    let own = (edge_fields_read states few).takes bytes x.0 x.1 one.1 in
    let next : IsNextEdge states before (edge_from x.0) = ((omega (arith, own.1.0.1, some), omega (arith, own.1.1.0.1), omega (arith, own.1.1.1.1, some)), edge_follows_from before (edge_from x.0) test.0) in
    subst (λ (p : GraphEdge × List ℕ). (bytes ≡ (edge_line p.0 ++ 10 ∷ []) ++ p.1) × IsNextEdge states before p.0) test.1 (own.0 ∙ ap (λ (t : List ℕ). t ++ x.1) (edge_text (edge_from x.0)), next)

pub edge_reads : (states : ℕ) → states ≤ 256 → 1 ≤ states → (before : Option GraphEdge) → Reads (edge_at states before) (λ e. edge_line e ++ 10 ∷ []) (IsNextEdge states before)
edge_reads states few some before = record { again = edge_again states few before; takes = edge_takes states few some before }

edge_kept : (states left : ℕ) (before : Option GraphEdge) (text : List ℕ) (next : Place) → Keeps (at_edges states (suc left) before) text next → (e : GraphEdge) × IsNextEdge states before e × (text ≡ edge_line e)
edge_kept states left before text next (keeps_edge s l b e from label to order) = (e, ((from, label, to), order), refl)

abbrev pub edges_lines : List GraphEdge → List (List ℕ)
edges_lines edges = lines_along (λ before e. edge_line e ∷ []) (λ before e. Some e) None edges

abbrev pub AreEdges : ℕ → ℕ → List GraphEdge → Type 0
AreEdges states count edges = (length edges ≡ count) × HoldsAlong (IsNextEdge states) (λ before e. Some e) None edges

-- where there is an edge, there is a state
abbrev pub Stated : ℕ → ℕ → Type 0
Stated states count = 1 ≤ count → 1 ≤ states

pub edges_read : (states count : ℕ) → states ≤ 256 → Stated states count → ReadsLines Keeps IsEnd (edges_at states count) edges_lines (AreEdges states count) (at_edges states count None) (λ edges. at_edges states 0 (after_all (λ before e. Some e) None edges))
unfolding edges_at
edges_read states count few some =
    parts_read Keeps IsEnd (λ before. one_line (edge_at states before)) (λ before e. Some e) 1 (λ before e. edge_line e ∷ []) (IsNextEdge states) (λ left before. Stated states left) (at_edges states)
    (λ left before inside. one_line_reads Keeps IsEnd (edge_at states before) edge_line (IsNextEdge states before) (at_edges states (suc left) before) (λ e. at_edges states left (Some e)) (edge_reads states few (inside (omega arith)) before)
    (λ e is. keeps_edge states left before e is.0.0 is.0.1 is.0.2 is.1) (edge_kept states left before) (ends_at_row (at_edges states (suc left) before)))
    (λ before e is. refl) (λ left before e inside is h. inside (omega arith)) count None some
