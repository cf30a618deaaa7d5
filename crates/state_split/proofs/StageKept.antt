-- The states of the greatest weight: how they are marked, and what is kept of a graph.
use Rattle.std.proofs.Common.{◌≡◌, ◌↔◌, ℕ, ◌<◌, ◌≤◌, List, length, get_or, map, eqb, Bool, true, false, refl, ap, sym, ◌∙◌, subst, arith}
use Rattle.std.specs.Prelude.{All, Contains}
use Rattle.std.proofs.lemmas.Bool.{eqb-true, eq-eqb}
use Rattle.std.proofs.lemmas.List.{get_or-map}
use Rattle.std.proofs.lemmas.List.Elements.{Contains-get_or}
use Rattle.symbol_base.proofs.AscendingNumbers.{filter_ascends}
use Rattle.label_graphs.specs.Graph.{EdgeData, IsGraph}
use Rattle.label_graphs.specs.Kept.{IsKept, marked_states}
use Rattle.label_graphs.specs.Refinement.{parents_of}
use Rattle.label_graphs.specs.inside.Numbers.{is_marked}
use Rattle.label_graphs.proofs.Marks.{marked_inside, marked_listed, listed_marked}
use Rattle.split_spec.specs.Weighted.{WeightedData}
use Rattle.split_spec.specs.Round.{SplitData}
use Rattle.split_spec.specs.Chain.{IsChain, IsHeaviest, NeedsRound, RoundsLead}

-- a state is one of the greatest weight exactly where it weighs this
heaviest_weigh : (x : List ℕ) (most state : ℕ) → All (λ weight. weight ≤ most) x → ((bound : ℕ) → All (λ weight. weight ≤ bound) x → most ≤ bound)
    → state < length x → (get_or x state 0 ≡ most) ↔ IsHeaviest x state
heaviest_weigh x most state greatest least inside = (
  (λ same. record { inside = inside; most = λ k d k_in. (let low = greatest k d k_in in omega (arith, low, same)) }),
  (λ heaviest.
      let low = least (get_or x state 0) heaviest.most in
      let high = greatest state 0 inside in
      omega (arith, low, high)),
)

-- the marks tell which states are
pub marks_tell : (x : List ℕ) (most : ℕ) (marks : List Bool) → marks ≡ map (λ weight. eqb weight most) x → All (λ weight. weight ≤ most) x
    → ((bound : ℕ) → All (λ weight. weight ≤ bound) x → most ≤ bound) → (state : ℕ) → state < length x
    → (get_or marks state false ≡ true) ↔ IsHeaviest x state
marks_tell x most marks are greatest least state inside =
    let at : get_or marks state false ≡ eqb (get_or x state 0) most =
    ap (λ (ms : List Bool). get_or ms state false) are ∙ get_or-map (λ (weight : ℕ). eqb weight most) x state 0 false inside in
    let both = heaviest_weigh x most state greatest least inside in (
      (λ marked. both.0 (eqb-true (get_or x state 0) most (sym at ∙ marked))),
      (λ heaviest. at ∙ eq-eqb (get_or x state 0) most (both.1 heaviest)),
    )

-- marks that tell which states are of the greatest weight
abbrev pub MarkHeaviest : List ℕ → List Bool → Type 0
MarkHeaviest x marks = (state : ℕ) → state < length x → (get_or marks state false ≡ true) ↔ IsHeaviest x state

-- the listed states are those
heaviest_listed : (x : List ℕ) (marks : List Bool) → length marks ≡ length x → MarkHeaviest x marks → (state : ℕ)
    → Contains (marked_states marks) state ↔ IsHeaviest x state
heaviest_listed x marks size tell state = (
  (λ listed.
      let marked = listed_marked marks state listed in
      let inside = marked_inside marks state marked in
      (tell state (omega (arith, inside, size))).0 marked),
  (λ heaviest. marked_listed marks state ((tell state heaviest.inside).1 heaviest)),
)

-- and are states of the graph
pub listed_inside : (marks : List Bool) (m : ℕ) (kept : List ℕ) → length marks ≡ m → kept ≡ marked_states marks → All (λ state. state < m) kept
listed_inside marks m kept size are k d low =
    let listed = subst (λ (ss : List ℕ). Contains ss (get_or kept k d)) are (Contains-get_or kept k d low) in
    let inside = marked_inside marks (get_or kept k d) (listed_marked marks (get_or kept k d) listed) in
    omega (arith, inside, size)

-- what is made of the graph after the last round
pub record IsEnd (n : ℕ) (sink end : WeightedData) (rounds : List (List SplitData)) (end_parents : List ℕ) (marks : List Bool) (last : List (List EdgeData)) : Type 0 where
  pub lead : RoundsLead n sink rounds end end_parents
  pub done : NeedsRound end → ⊥
  pub size : length marks ≡ length end.weights
  pub marked : MarkHeaviest end.weights marks
  pub kept : IsKept end.rows marks last
  pub graph : IsGraph last

-- it ends a chain
pub end_of_chain : (n : ℕ) (sink end : WeightedData) (rounds : List (List SplitData)) (end_parents : List ℕ) (marks : List Bool) (last : List (List EdgeData))
    → IsEnd n sink end rounds end_parents marks last → (kept parents : List ℕ) → kept ≡ marked_states marks → parents ≡ parents_of end_parents kept
    → IsChain n sink (record { sink = sink; rounds = rounds; kept = kept; last = last; parents = parents })
end_of_chain n sink end rounds end_parents marks last known kept parents are given =
    let states = marked_states marks in
    let size = known.kept.size in
    let here : IsChain n sink (record { sink = sink; rounds = rounds; kept = states; last = last; parents = parents_of end_parents states }) = record {
      of = refl;
      end = end;
      end_parents = end_parents;
      rounds = known.lead;
      done = known.done;
      order = filter_ascends (is_marked marks) 0 (length marks);
      heaviest = heaviest_listed end.weights marks known.size known.marked;
      graph = known.graph;
      size = size;
      edges = λ from block to from_in to_in. known.kept.edges from block to (omega (arith, from_in, size)) (omega (arith, to_in, size));
      parents = refl;
    } in
    subst (λ (ps : List ℕ). IsChain n sink (record { sink = sink; rounds = rounds; kept = kept; last = last; parents = ps })) (sym given)
    (subst (λ (ss : List ℕ). IsChain n sink (record { sink = sink; rounds = rounds; kept = ss; last = last; parents = parents_of end_parents ss })) (sym are) here)
