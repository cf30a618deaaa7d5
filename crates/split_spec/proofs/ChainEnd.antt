-- The states that are kept at the end of a chain have edges enough, since the edges of a state of the greatest weight stay among such states.
use Rattle.std.proofs.Common.{◌≡◌, ℕ, suc, ◌*◌, ◌<◌, ◌≤◌, List, [], ◌∷◌, length, get_or, map, inl, inr, ap, sym, ◌∙◌, subst, arith}
use Rattle.std.specs.Prelude.{All, Contains}
use Rattle.std.proofs.Math.Nat.{le_of_mul-le-mul_right}
use Rattle.std.proofs.lemmas.Bool.{cases_lt}
use Rattle.std.proofs.lemmas.List.{get_or_default, length-map}
use Rattle.std.proofs.lemmas.List.Elements.{Contains-get_or}
use Rattle.symbol_base.specs.Ascending.{IsAscending}
use Rattle.label_graphs.specs.Graph.{EdgeData, IsEdgeBefore, HasEdge, IsGraph}
use Rattle.label_graphs.proofs.EdgeOrder.{ascending_same}
use Rattle.split_spec.specs.Weighted.{IsWeighted, WeightedData}
use Rattle.split_spec.specs.Run.{weight_of}
use Rattle.split_spec.specs.Chain.{ChainData, IsChain, IsHeaviest, NeedsRound}
use Rattle.split_spec.proofs.EdgeEnds.{edge_to, target_inside}
use Rattle.split_spec.proofs.Listed.{listed_at, listed_map, map_listed}
use Rattle.split_spec.proofs.OrderTold.{number_strict, later_behind}
use Rattle.split_spec.proofs.ChainLast.{last_part}
use Rattle.split_spec.proofs.PartGraph.{IsPart, part_keeps}
use Rattle.split_spec.proofs.RunOfHeaviest.{targets_most}
use Rattle.split_spec.proofs.SumsBounded.{weights_most}

-- an edge under the old number of its target
abbrev old_edge : List ℕ → EdgeData → EdgeData
old_edge kept e = edge_to e.block (get_or kept e.to 0)

-- old numbers keep the order of edges
old_before : (kept : List ℕ) (e f : EdgeData) → IsAscending (λ s t. s < t) kept → f.to < length kept → IsEdgeBefore e f
    → IsEdgeBefore (old_edge kept e) (old_edge kept f)
old_before kept e f order inside (inl less) = inl less
old_before kept e f order inside (inr both) = inr (both.0, later_behind (λ s t. s < t) kept e.to f.to 0 number_strict order both.1 inside)

-- a row under old numbers stands in order
old_ascends : (kept : List ℕ) (row : List EdgeData) → IsAscending (λ s t. s < t) kept → All (λ e. e.to < length kept) row → IsAscending IsEdgeBefore row
    → IsAscending IsEdgeBefore (map (old_edge kept) row)
old_ascends kept [] order inside ascending = tt
old_ascends kept (e ∷ []) order inside ascending = tt
old_ascends kept (e ∷ f ∷ row) order inside ascending = (
  old_before kept e f order (inside 1 f (omega arith)) ascending.0,
  old_ascends kept (f ∷ row) order (λ k d k_in. inside (suc k) d (omega (arith, k_in))) ascending.1,
)

-- the edges of a kept state's row, under old numbers, are edges of the state
old_from_kept : (rows last : List (List EdgeData)) (kept : List ℕ) (state : ℕ) → IsPart rows kept last → (g : EdgeData)
    → Contains (map (old_edge kept) (get_or last state [])) g → Contains (get_or rows (get_or kept state 0) []) g
old_from_kept rows last kept state part g found =
    let old = listed_map (old_edge kept) (get_or last state []) g found in
    let e = old.0 in
    subst (λ (f : EdgeData). Contains (get_or rows (get_or kept state 0) []) f) old.2
    (part_keeps rows last kept part state e.block e.to old.1)

-- and all of them, where these lead to kept states
kept_from_old : (rows last : List (List EdgeData)) (kept : List ℕ) (state : ℕ) → IsPart rows kept last → state < length last
    → ((block to : ℕ) → HasEdge rows (get_or kept state 0) block to → Contains kept to) → (g : EdgeData)
    → Contains (get_or rows (get_or kept state 0) []) g → Contains (map (old_edge kept) (get_or last state [])) g
kept_from_old rows last kept state part inside stays g found =
    let size = part.size in
    let place = listed_at kept g.to 0 (stays g.block g.to found) in
    let old : HasEdge rows (get_or kept state 0) g.block (get_or kept place.0 0) =
    subst (λ t. HasEdge rows (get_or kept state 0) g.block t) (sym place.2) found in
    let new : HasEdge last state g.block place.0 = (part.edges state g.block place.0 (omega (arith, inside, size)) place.1).1 old in
    subst (λ t. Contains (map (old_edge kept) (get_or last state [])) (edge_to g.block t)) place.2
    (map_listed (old_edge kept) (get_or last state []) (edge_to g.block place.0) new)

-- where all edges of a state lead to kept states, as many are kept
as_many : (rows last : List (List EdgeData)) (kept : List ℕ) (state : ℕ) → IsGraph rows → IsPart rows kept last → state < length last
    → get_or kept state 0 < length rows → ((block to : ℕ) → HasEdge rows (get_or kept state 0) block to → Contains kept to)
    → length (get_or last state []) ≡ length (get_or rows (get_or kept state 0) [])
as_many rows last kept state whole part inside whole_in stays =
    let row = get_or last state [] in
    let size = part.size in
    let targets : All (λ (e : EdgeData). e.to < length kept) row =
    λ k d k_in. (let low = part.graph.targets state [] inside k d k_in in omega (arith, low, size)) in
    let same = ascending_same (map (old_edge kept) row) (get_or rows (get_or kept state 0) [])
    (old_ascends kept row part.order targets (part.graph.order state [] inside)) (whole.order (get_or kept state 0) [] whole_in)
    (old_from_kept rows last kept state part) (kept_from_old rows last kept state part inside stays) in
    sym (length-map row (old_edge kept)) ∙ ap (λ (es : List EdgeData). length es) same

-- a state of the greatest weight has at least n edges
enough : (n : ℕ) (h : WeightedData) (state : ℕ) → IsWeighted n h → IsHeaviest h.weights state → n ≤ length (get_or h.rows state [])
enough n h state weighted heaviest =
    let row = get_or h.rows state [] in
    let most = get_or h.weights state 0 in
    let least : n * most ≤ weight_of h.weights row = weighted.inequality state heaviest.inside in
    let bound = weights_most h.weights most row (targets_most n h state state weighted heaviest) in
    let product : n * most ≤ length row * most = omega (arith, least, bound) in
    le_of_mul-le-mul_right product (weighted.weights.positive state 0 heaviest.inside)

-- where no round is needed its edges lead to states of the greatest weight
leads_to_heaviest : (n : ℕ) (h : WeightedData) (from block to : ℕ) → IsWeighted n h → (NeedsRound h → ⊥) → IsHeaviest h.weights from
    → HasEdge h.rows from block to → IsHeaviest h.weights to
leads_to_heaviest n h from block to weighted done heaviest edge =
    let low = target_inside h.rows from block to weighted.weights.graph edge in
    let size = weighted.weights.size in
    elim (cases_lt (get_or h.weights to 0) (get_or h.weights from 0)) [
      | inl less ↦ absurd (done (record { from = from; block = block; to = to; heaviest = heaviest; edge = edge; lighter = less }))
      | inr same ↦ record {
        inside = omega (arith, low, size);
        most = λ k d k_in. (let most = heaviest.most k d k_in in omega (arith, most, same));
      }
    ]

-- so edges of kept states lead to kept states
pub kept_closed : (n : ℕ) (g : WeightedData) (chain : ChainData) (is : IsChain n g chain) → IsWeighted n is.end → (state block to : ℕ)
    → Contains chain.kept state → HasEdge is.end.rows state block to → Contains chain.kept to
kept_closed n g chain is weighted state block to found edge =
    (is.heaviest to).1 (leads_to_heaviest n is.end state block to weighted is.done ((is.heaviest state).0 found) edge)

-- and each row of the last graph has at least n edges
pub edges_enough : (n : ℕ) (g : WeightedData) (chain : ChainData) (is : IsChain n g chain) → IsWeighted n is.end → All (λ row. n ≤ length row) chain.last
edges_enough n g chain is weighted k d k_in =
    let size = is.size in
    let state = get_or chain.kept k 0 in
    let low : k < length chain.kept = omega (arith, k_in, size) in
    let found = Contains-get_or chain.kept k 0 low in
    let heaviest = (is.heaviest state).0 found in
    let inside : state < length is.end.rows = (let below = heaviest.inside in let sizes = weighted.weights.size in omega (arith, below, sizes)) in
    let many = as_many is.end.rows chain.last chain.kept k weighted.weights.graph (last_part n g chain is) k_in inside
    (λ block to edge. kept_closed n g chain is weighted state block to found edge) in
    let least = enough n is.end state weighted heaviest in
    let same : length (get_or chain.last k d) ≡ length (get_or chain.last k []) =
    ap (λ (es : List EdgeData). length es) (get_or_default chain.last k d [] k_in) in
    omega (arith, many, least, same)
