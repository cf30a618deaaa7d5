-- What rounds keep, and how far they look ahead.
use Rattle.std.proofs.Common.{◌≡◌, ℕ, ◌+◌, ◌<◌, ◌≤◌, List, [], ◌∷◌, length, get_or, refl, sym, ◌∙◌, subst, arith}
use Rattle.std.specs.List.{sum, range_with_len}
use Rattle.std.proofs.lemmas.List.{length-map}
use Rattle.std.proofs.lemmas.List.FromFn.{get_or-range_with_len, length-range_with_len}
use Rattle.label_graphs.specs.Graph.{EdgeData, HasEdge}
use Rattle.label_graphs.specs.Refinement.{KeepsEdges, parents_of}
use Rattle.label_graphs.specs.Sink.{spread}
use Rattle.split_spec.specs.Weighted.{IsWeighted, WeightedData}
use Rattle.split_spec.specs.Round.{SplitData}
use Rattle.split_spec.specs.Chain.{RoundsLead}
use Rattle.split_spec.specs.Window.{HasWindow}
use Rattle.split_spec.proofs.EdgeEnds.{source_inside, target_inside}
use Rattle.split_spec.proofs.Given.{DividesLaw, KeepsWeightsLaw, ComposedLaw}
use Rattle.split_spec.proofs.LooksAhead.{looks_ahead}

-- what many rounds keep
abbrev AreKept : ℕ → WeightedData → WeightedData → List ℕ → Type 0
AreKept n g h parents =
    IsWeighted n h × (sum h.weights ≡ sum g.weights) × (spread h.rows h.weights ≡ spread g.rows g.weights)
    × (length parents ≡ length h.rows) × KeepsEdges h.rows g.rows parents

-- a graph keeps its own edges, where each state is its own parent
own_edges : (rows : List (List EdgeData)) → ((from block to : ℕ) → HasEdge rows from block to → (from < length rows) × (to < length rows))
    → KeepsEdges rows rows (range_with_len 0 (length rows))
own_edges rows inside from block to edge =
    let itself : (s : ℕ) → s < length rows → s ≡ get_or (range_with_len 0 (length rows)) s 0 =
    λ s s_in. omega arith ∙ sym (get_or-range_with_len 0 (length rows) s 0 s_in) in
    let ends = inside from block to edge in
    subst (λ s. HasEdge rows s block (get_or (range_with_len 0 (length rows)) to 0)) (itself from ends.0)
    (subst (λ t. HasEdge rows from block t) (itself to ends.1) edge)

-- no rounds keep all of it
kept_by_none : (n : ℕ) (g h : WeightedData) (parents : List ℕ) → IsWeighted n g → RoundsLead n g [] h parents → AreKept n g h parents
kept_by_none n g h parents weighted same =
    let own = own_edges g.rows (λ from block to edge. (source_inside g.rows from block to edge, target_inside g.rows from block to weighted.weights.graph edge)) in
    let here : AreKept n g g (range_with_len 0 (length g.rows)) = (weighted, refl, refl, length-range_with_len 0 (length g.rows), own) in
    subst (λ (k : WeightedData). AreKept n g k parents) (sym same.0)
    (subst (λ (ps : List ℕ). AreKept n g g ps) (sym same.1) here)

-- where one round and the rounds behind it keep it, all of them do
kept_by_more : ComposedLaw → (n : ℕ) (g next h : WeightedData) (first rest : List ℕ) → IsWeighted n next
    → (sum next.weights ≡ sum g.weights) × (spread next.rows next.weights ≡ spread g.rows g.weights) → KeepsEdges next.rows g.rows first
    → AreKept n next h rest → AreKept n g h (parents_of first rest)
kept_by_more composed n g next h first rest weighted sums keeps behind = (
  behind.0,
  behind.1 ∙ sums.0,
  behind.2 ∙ sums.1,
  length-map rest (λ s. get_or first s 0) ∙ behind.3,
  composed h.rows next.rows g.rows rest first behind.3 behind.0.weights.graph.targets behind.4 keeps,
)

-- what one round keeps many rounds keep
pub keep_weights : KeepsWeightsLaw → DividesLaw → ComposedLaw → (n : ℕ) (g h : WeightedData) (rounds : List (List SplitData)) (parents : List ℕ) → 1 ≤ n
    → IsWeighted n g → RoundsLead n g rounds h parents → AreKept n g h parents
keep_weights keeps divides composed n g h [] parents some weighted lead = kept_by_none n g h parents weighted lead
keep_weights keeps divides composed n g h (splits ∷ rounds) parents some weighted lead =
    let next = lead.0 in
    let first = lead.1 in
    let one = keeps n g next splits first some weighted lead.4 in
    let behind = keep_weights keeps divides composed n next h rounds lead.2 some one.0 lead.5 in
    subst (λ (ps : List ℕ). AreKept n g h ps) (sym lead.6)
    (kept_by_more composed n g next h first lead.2 one.0 (one.1, one.2) (divides n g next splits first weighted lead.4).0 behind)

-- each round makes the window one block longer
pub look_ahead : KeepsWeightsLaw → DividesLaw → (n a r : ℕ) (g h : WeightedData) (rounds : List (List SplitData)) (parents : List ℕ) → 1 ≤ n
    → IsWeighted n g → RoundsLead n g rounds h parents → HasWindow g.rows a r → HasWindow h.rows a (r + length rounds)
look_ahead keeps divides n a r g h [] parents some weighted lead window =
    subst (λ (k : WeightedData). HasWindow k.rows a (r + 0)) (sym lead.0) (subst (λ m. HasWindow g.rows a m) (omega arith) window)
look_ahead keeps divides n a r g h (splits ∷ rounds) parents some weighted lead window =
    let next = lead.0 in
    let parts = divides n g next splits lead.1 weighted lead.4 in
    let longer = looks_ahead next.rows g.rows lead.1 a r window parts.0 parts.1 in
    let one = keeps n g next splits lead.1 some weighted lead.4 in
    let behind = look_ahead keeps divides n a (r + 1) next h rounds lead.2 some one.0 lead.5 longer in
    subst (λ m. HasWindow h.rows a m) (omega arith) behind
