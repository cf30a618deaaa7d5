-- A graph with weights has one least sink.
use Rattle.std.proofs.Common.{◌≡◌, ℕ, List, [], ◌∷◌, inl, inr, sym, subst, arith}
use Rattle.std.specs.Prelude.{Contains, slice_index}
use Rattle.std.proofs.lemmas.List.Elements.{Contains-get_or}
use Rattle.symbol_base.specs.Walk.{IsWalk}
use Rattle.symbol_base.proofs.AscendingNumbers.{ascending_same}
use Rattle.label_graphs.specs.Graph.{EdgeData}
use Rattle.label_graphs.specs.Sink.{IsPositiveEdge, IsSink, IsLeastSink, ComesFirst}

-- walks from a state of a sink stay in it
pub stays_in : (rows : List (List EdgeData)) (weights states : List ℕ) (blocks : List ℕ) (from to : ℕ) → IsSink rows weights states
    → Contains states from → IsWalk (IsPositiveEdge rows weights) from blocks to → Contains states to
stays_in rows weights states [] from to sink here walk = subst (λ s. Contains states s) walk here
stays_in rows weights states (block ∷ blocks) from to sink here walk =
    stays_in rows weights states blocks walk.0 to sink (sink.closed from block walk.0 here walk.1) walk.2

-- a sink with a state of another lies in that one
within : (rows : List (List EdgeData)) (weights states others : List ℕ) (common : ℕ) → IsSink rows weights states → IsSink rows weights others
    → Contains states common → Contains others common → (state : ℕ) → Contains states state → Contains others state
within rows weights states others common one other here there state found =
    let led = one.joined common state here found in
    stays_in rows weights others led.0 common state other there led.1

least_state : (weights states others : List ℕ) → ComesFirst weights states others → ComesFirst weights others states
    → slice_index states 0 ≡ slice_index others 0
least_state weights states others (inl less) (inl more) = absurd (omega (arith, less, more))
least_state weights states others (inl less) (inr same) = absurd (omega (arith, less, same.0))
least_state weights states others (inr same) (inl less) = absurd (omega (arith, less, same.0))
least_state weights states others (inr one) (inr other) = omega (arith, one.1, other.1)

pub one_least_sink : (rows : List (List EdgeData)) (weights states others : List ℕ) → IsLeastSink rows weights states
    → IsLeastSink rows weights others → states ≡ others
one_least_sink rows weights states others one other =
    let first = least_state weights states others (one.least others other.sink) (other.least states one.sink) in
    let here = Contains-get_or states 0 0 one.sink.some in
    let there : Contains others (slice_index states 0) = subst (λ s. Contains others s) (sym first) (Contains-get_or others 0 0 other.sink.some) in
    ascending_same states others one.sink.order other.sink.order
    (within rows weights states others (slice_index states 0) one.sink other.sink here there)
    (within rows weights others states (slice_index states 0) other.sink one.sink there here)
