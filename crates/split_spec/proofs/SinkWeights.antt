-- A sink is a graph of its own: its weights are positive, and each of its states leads to each.
use Rattle.std.proofs.Common.{◌≡◌, ℕ, ◌<◌, List, [], ◌∷◌, length, map, sym, ◌∙◌, subst, arith}
use Rattle.std.specs.Prelude.{slice_index}
use Rattle.std.proofs.lemmas.List.{length-map}
use Rattle.std.proofs.lemmas.List.Elements.{All-map, Contains-get_or}
use Rattle.symbol_base.specs.Walk.{IsWalk}
use Rattle.label_graphs.specs.Graph.{EdgeData, HasEdge, IsGraph}
use Rattle.label_graphs.specs.Sink.{AreEdgesAmong, IsPositiveEdge, IsSink}
use Rattle.label_graphs.specs.Vector.{MeetsInequality, target_sum}
use Rattle.split_spec.specs.Weighted.{IsIrreducible, IsWeighted}
use Rattle.split_spec.proofs.Listed.{listed_at}
use Rattle.split_spec.proofs.OrderTold.{number_strict, one_place}

-- a walk through states of positive weight that begins in a sink is one in it
walk_inside : (power rows : List (List EdgeData)) (x states blocks : List ℕ) (from to : ℕ) → IsSink power x states → AreEdgesAmong power states rows
    → from < length states → to < length states → IsWalk (IsPositiveEdge power x) (slice_index states from) blocks (slice_index states to)
    → IsWalk (HasEdge rows) from blocks to
walk_inside power rows x states [] from to sink among from_in to_in walk = one_place (λ s t. s < t) states from to 0 number_strict sink.order from_in to_in walk
walk_inside power rows x states (block ∷ blocks) from to sink among from_in to_in walk =
    let next = listed_at states walk.0 0 (sink.closed (slice_index states from) block walk.0 (Contains-get_or states from 0 from_in) walk.1) in
    let edge : HasEdge power (slice_index states from) block (slice_index states next.0) =
    subst (λ s. HasEdge power (slice_index states from) block s) (sym next.2) walk.1.0 in
    let rest : IsWalk (IsPositiveEdge power x) (slice_index states next.0) blocks (slice_index states to) =
    subst (λ s. IsWalk (IsPositiveEdge power x) s blocks (slice_index states to)) (sym next.2) walk.2 in (
      next.0,
      (among from block next.0 from_in next.1).1 edge,
      walk_inside power rows x states blocks next.0 to sink among next.1 to_in rest,
    )

-- a sink whose weights meet the inequality is a graph of which a code can be split
pub a_sink_is_weighted : (n : ℕ) (power rows : List (List EdgeData)) (x states : List ℕ) → IsSink power x states
    → IsGraph rows → length rows ≡ length states → AreEdgesAmong power states rows
    → MeetsInequality (target_sum rows) n (map (λ state. slice_index x state) states)
    → IsWeighted n (record { rows = rows; weights = map (λ state. slice_index x state) states })
a_sink_is_weighted n power rows x states sink graph size among enough = record {
  weights = record {
    graph = graph;
    size = length-map states (λ state. slice_index x state) ∙ sym size;
    positive = All-map (λ weight. 0 < weight) (λ state. slice_index x state) states (λ k d inside. (sink.positive k d inside).1);
  };
  inequality = enough;
}

-- each state of a sink leads to each
pub a_sink_is_irreducible : (power rows : List (List EdgeData)) (x states : List ℕ) → IsSink power x states → length rows ≡ length states → AreEdgesAmong power states rows
    → IsIrreducible rows
a_sink_is_irreducible power rows x states sink size among from to from_in to_in =
    let here : from < length states = omega (arith, from_in, size) in
    let there : to < length states = omega (arith, to_in, size) in
    let led = sink.joined (slice_index states from) (slice_index states to) (Contains-get_or states from 0 here) (Contains-get_or states to 0 there) in
    (led.0, walk_inside power rows x states led.0 from to sink among here there led.1)
