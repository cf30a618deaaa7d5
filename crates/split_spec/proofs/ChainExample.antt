-- The chain of the example: one round is enough, and all of its three states are kept.
use Rattle.std.proofs.Common.{◌≡◌, ◌↔◌, ℕ, zero, suc, ◌<◌, ◌≤◌, List, [], ◌∷◌, length, get_or, All, true, ◌||◌, cond, eqb, refl, sym, ◌∙◌, subst, arith}
use Rattle.std.specs.Prelude.{Contains, slice_index}
use Rattle.std.specs.List.{range_with_len, list_all}
use Rattle.std.proofs.lemmas.Bool.{eqb-true}
use Rattle.std.proofs.lemmas.List.Elements.{All-contains, All-from_recursion}
use Rattle.std.proofs.lemmas.List.Sums.{AllPass-from_list_all}
use Rattle.symbol_base.specs.Walk.{IsWalk}
use Rattle.symbol_base.proofs.AscendingNumbers.{Contains-range}
use Rattle.label_graphs.specs.Graph.{HasEdge}
use Rattle.label_graphs.specs.Sink.{AreEdgesAmong}
use Rattle.label_graphs.specs.Vector.{MeetsInequality, target_sum}
use Rattle.split_spec.specs.Weighted.{IsIrreducible, IsWeighted}
use Rattle.split_spec.specs.Chain.{ChainData, IsChain, IsHeaviest, NeedsRound}
use Rattle.split_spec.specs.Window.{HasWindow}
use Rattle.split_spec.proofs.EdgeEnds.{edge_to, source_inside, target_inside}
use Rattle.split_spec.proofs.Examples.{sink, sink_graph, split, parts, parts_graph, parents, round}

-- the edges of state 0 lead to 1 + 2 + 2 + 1 + 2, which is 4 * 2, and those of state 1 to 5
sink_meets : MeetsInequality (target_sum sink.rows) 4 sink.weights
sink_meets zero inside = omega arith
sink_meets (suc zero) inside = omega arith
sink_meets (suc (suc state)) inside = absurd (omega (arith, inside))

-- each state leads to each by one edge
pub sink_joined : IsIrreducible sink.rows
sink_joined zero zero from_in to_in = (3 ∷ [], (0, (1, omega arith, refl), refl))
sink_joined zero (suc zero) from_in to_in = (2 ∷ [], (1, (0, omega arith, refl), refl))
sink_joined (suc zero) zero from_in to_in = (5 ∷ [], (0, (0, omega arith, refl), refl))
sink_joined (suc zero) (suc zero) from_in to_in = (6 ∷ [], (1, (1, omega arith, refl), refl))
sink_joined (suc (suc from)) to from_in to_in = absurd (omega (arith, from_in))
sink_joined from (suc (suc to)) from_in to_in = absurd (omega (arith, to_in))

-- so the sink is a graph of which a code can be split
pub sink_weighted : IsWeighted 4 sink
sink_weighted = record {
  weights = record {
    graph = sink_graph;
    size = refl;
    positive = All-from_recursion (λ weight. 0 < weight) sink.weights (omega arith, (omega arith, tt));
  };
  inequality = sink_meets;
}

-- it needs a round: state 0 weighs 2 and leads to state 1, which weighs 1
sink_needs : NeedsRound sink
sink_needs = record {
  from = 0;
  block = 2;
  to = 1;
  heaviest = record { inside = omega arith; most = All-from_recursion (λ weight. weight ≤ 2) sink.weights (omega arith, (omega arith, tt)) };
  edge = (0, omega arith, refl);
  lighter = omega arith;
}

-- all parts weigh 1
part_weighs : (part : ℕ) → part < 3 → slice_index parts.weights part ≡ 1
part_weighs zero inside = refl
part_weighs (suc zero) inside = refl
part_weighs (suc (suc zero)) inside = refl
part_weighs (suc (suc (suc part))) inside = absurd (omega (arith, inside))

parts_done : NeedsRound parts → ⊥
parts_done need =
    let to_in : need.to < 3 = target_inside parts.rows need.from need.block need.to parts_graph need.edge in
    let from_in : need.from < 3 = need.heaviest.inside in
    let less = need.lighter in
    absurd (omega (arith, less, part_weighs need.from from_in, part_weighs need.to to_in))

-- so no round is needed, and all are kept
abbrev kept : List ℕ
kept = 0 ∷ 1 ∷ 2 ∷ []

all_heaviest : (part : ℕ) → Contains kept part ↔ IsHeaviest parts.weights part
all_heaviest part = (
  (λ found.
      let inside : part < 3 = ((Contains-range 0 3 part).0 found).1 in
      record {
        inside = inside;
        most = subst (λ most. All (λ weight. weight ≤ most) parts.weights) (sym (part_weighs part inside))
            (All-from_recursion (λ weight. weight ≤ 1) parts.weights (omega arith, (omega arith, (omega arith, tt))));
      }),
  (λ heaviest. let inside : part < 3 = heaviest.inside in (Contains-range 0 3 part).1 (omega arith, omega (arith, inside))),
)

same_number : (part : ℕ) → part < 3 → part ≡ slice_index kept part
same_number zero inside = refl
same_number (suc zero) inside = refl
same_number (suc (suc zero)) inside = refl
same_number (suc (suc (suc part))) inside = absurd (omega (arith, inside))

all_edges : AreEdgesAmong parts.rows kept parts.rows
all_edges from block to from_in to_in =
    subst (λ s. HasEdge parts.rows from block to ↔ HasEdge parts.rows s block (slice_index kept to)) (same_number from from_in)
    (subst (λ t. HasEdge parts.rows from block to ↔ HasEdge parts.rows from block t) (same_number to to_in) ((λ edge. edge), (λ edge. edge)))

chain : ChainData
chain = record { sink = sink; rounds = (split ∷ []) ∷ []; kept = kept; last = parts.rows; parents = parents }

is_chain : IsChain 4 sink chain
unfolding chain
is_chain = record {
  of = refl;
  end = parts;
  end_parents = parents;
  rounds = (parts, parents, range_with_len 0 3, sink_needs, round, (refl, refl), refl);
  done = parts_done;
  order = (omega arith, (omega arith, tt));
  heaviest = all_heaviest;
  graph = parts_graph;
  size = refl;
  edges = all_edges;
  parents = refl;
}

-- a block of the sink tells where it leads, and so the block before tells from where
leads_to : ℕ → ℕ
leads_to block = cond (eqb block 2 || eqb block 6) 1 0

block_tells : (from block to : ℕ) → HasEdge sink.rows from block to → to ≡ leads_to block
unfolding leads_to
block_tells from block to edge =
    eqb-true to (leads_to block) (All-contains (λ e. eqb e.to (leads_to e.block) ≡ true) (get_or sink.rows from []) (edge_to block to)
    (AllPass-from_list_all (λ e. eqb e.to (leads_to e.block)) (get_or sink.rows from [])
    (AllPass-from_list_all (λ row. list_all (λ e. eqb e.to (leads_to e.block)) row) sink.rows refl from [] (source_inside sink.rows from block to edge))) edge)

from_told : (before : List ℕ) → length before ≡ 1 → (start other from to : ℕ) → IsWalk (HasEdge sink.rows) start before from
    → IsWalk (HasEdge sink.rows) other before to → from ≡ to
from_told [] size start other from to one two = absurd (omega (arith, size))
from_told (block ∷ []) size start other from to one two =
    sym one.2 ∙ block_tells start block one.0 one.1 ∙ sym (block_tells other block two.0 two.1) ∙ two.2
from_told (block ∷ next ∷ before) size start other from to one two = absurd (omega (arith, size))

sink_window : HasWindow sink.rows 1 0
sink_window before behind block before_size behind_size one other = (
  from_told before before_size one.start other.start one.from other.from one.walk_before other.walk_before,
  block_tells one.from block one.to one.edge ∙ sym (block_tells other.from block other.to other.edge),
)

-- of a part it doesn't: 3 leads from part 0 to 0 and to 2, and the next block decides which
parts_window : HasWindow parts.rows 1 0 → ⊥
parts_window window =
    let same = window (3 ∷ []) [] 3 refl refl
    (record { start = 0; from = 0; to = 0; end = 0; walk_before = (0, (1, omega arith, refl), refl); edge = (1, omega arith, refl); walk_behind = refl })
    (record { start = 0; from = 0; to = 2; end = 2; walk_before = (0, (1, omega arith, refl), refl); edge = (2, omega arith, refl); walk_behind = refl }) in
    absurd (omega (arith, same.1))
