-- What a sink says of the steps that it is, and that they have one outcome.
use Rattle.std.proofs.Common.{◌≡◌, ℕ, ◌<◌, ◌≤◌, List, length, map, Ok, Err, sym, ap, ◌∙◌, subst, arith}
use Rattle.std.specs.Prelude.{slice_index}
use Rattle.std.specs.List.{sum}
use Rattle.label_graphs.specs.Graph.{EdgeData, IsGraph, HasEdge}
use Rattle.label_graphs.specs.Sink.{AreEdgesAmong, spread}
use Rattle.label_graphs.specs.Vector.{MeetsInequality, target_sum}
use Rattle.label_graphs.proofs.EdgeOrder.{same_graphs}
use Rattle.label_graphs.proofs.OneSink.{one_least_sink}
use Rattle.label_graphs.proofs.Renumbered.{target_of}
use Rattle.split_spec.specs.Weighted.{IsWeighted}
use Rattle.split_spec.proofs.SinkWeights.{a_sink_is_weighted}
use Rattle.command_steps.specs.declared.status.Limit.TheVariants.{Weight, Spread}
use Rattle.command_steps.specs.declared.status.Status.TheVariants.{TooLarge}
use Rattle.command_steps.specs.Step.{IsSingle}
use Rattle.command_steps.specs.Promise.{Decides}
use Rattle.steps.proofs.StepLaws.{finds_value, finds_is_single, needs_is_single, needs_met, needs_unmet, then_is_single, gives_is_single}
use Rattle.command_steps.proofs.StepLaws.{too_large_is_alone}
use Rattle.label_graphs.specs.declared.sink_graph.SinkGraph.{SinkGraph}
use Rattle.label_graphs.proofs.Renumbered.{source_of}
use Rattle.design_steps.specs.Sinks.{SinkData, IsSinkOf, FindsSink, NeedsWeight, NeedsSpread, SinkOf}
use Rattle.design_steps.specs.Chains.{weighted_sink}
use Rattle.design_steps.specs.Views.{sink_data}

-- ---- a power with weights has one sink

edges_alike : (power : List (List EdgeData)) (states : List ℕ) (rows others : List (List EdgeData)) → IsGraph rows → length rows ≡ length states
    → AreEdgesAmong power states rows → AreEdgesAmong power states others → (from block to : ℕ) → HasEdge rows from block to → HasEdge others from block to
edges_alike power states rows others graph size one other from block to edge =
    let source = source_of rows from block to edge in
    let target = target_of rows from block to graph source edge in
    let from_in : from < length states = omega (arith, source, size) in
    let to_in : to < length states = omega (arith, target, size) in
    (other from block to from_in to_in).1 ((one from block to from_in to_in).0 edge)

abbrev sink_of : List ℕ → List (List EdgeData) → List ℕ → SinkData
sink_of states rows weights = record { states = states; rows = rows; weights = weights }

sink_once : (power : List (List EdgeData)) (x : List ℕ) (sink other : SinkData) → IsSinkOf power x sink → IsSinkOf power x other → sink ≡ other
sink_once power x sink other here there =
    let states : sink.states ≡ other.states = one_least_sink power x sink.states other.states here.least there.least in
    let edges : AreEdgesAmong power sink.states other.rows = subst (λ (s : List ℕ). AreEdgesAmong power s other.rows) (sym states) there.edges in
    let size : length other.rows ≡ length sink.states = there.size ∙ ap (λ (s : List ℕ). length s) (sym states) in
    let rows : sink.rows ≡ other.rows = same_graphs sink.rows other.rows here.graph there.graph (here.size ∙ sym size)
    (edges_alike power sink.states sink.rows other.rows here.graph here.size here.edges edges)
    (edges_alike power sink.states other.rows sink.rows there.graph size edges here.edges) in
    let weights : sink.weights ≡ other.weights = here.weights ∙ ap (λ (s : List ℕ). map (λ state. slice_index x state) s) states ∙ sym there.weights in
    ap (λ s. sink_of s sink.rows sink.weights) states ∙ ap (λ r. sink_of other.states r sink.weights) rows ∙ ap (λ w. sink_of other.states other.rows w) weights

sink_is_alone : (power : List (List EdgeData)) (x : List ℕ) → IsSingle (FindsSink power x)
sink_is_alone power x = λ files. finds_is_single _ (IsSinkOf power x) (sink_once power x)

pub sink_is_single : (power : List (List EdgeData)) (x : List ℕ) → IsSingle (SinkOf power x)
unfolding SinkOf
sink_is_single power x = λ files. search (then_is_single, sink_is_alone, needs_is_single, gives_is_single)

-- ---- what the functions answer

pub sink_is_found : (power : List (List EdgeData)) (x : List ℕ) (sink : SinkGraph) → IsSinkOf power x (sink_data sink) → Decides sink_data (FindsSink power x) (Ok sink)
sink_is_found power x sink is = finds_value _ _ (IsSinkOf power x) sink_data sink is

-- a sink whose weights meet the inequality is a graph of which a code can be split
pub sink_is_weighted : (power : List (List EdgeData)) (x : List ℕ) (sink : SinkData) (n : ℕ) → IsSinkOf power x sink → MeetsInequality (target_sum sink.rows) n sink.weights
    → IsWeighted n (weighted_sink sink)
sink_is_weighted power x sink n is enough =
    subst (λ (w : List ℕ). IsWeighted n (record { rows = sink.rows; weights = w })) (sym is.weights)
    (a_sink_is_weighted n power sink.rows x sink.states is.least.sink is.graph is.size is.edges
    (subst (λ (w : List ℕ). MeetsInequality (target_sum sink.rows) n w) is.weights enough))

pub weight_is_within : (sink : SinkData) (total : ℕ) → total ≡ sum sink.weights → total ≤ 512 → Decides (λ (done : Unit {0}). done) (NeedsWeight sink) (Ok tt)
weight_is_within sink total is within = needs_met _ _ (sum sink.weights ≤ 512) (TooLarge (Weight (sum sink.weights))) (omega (arith, is, within))

pub weight_is_over : (sink : SinkData) (total : ℕ) → total ≡ sum sink.weights → 512 < total
    → Decides (λ (done : Unit {0}). done) (NeedsWeight sink) (Err (TooLarge (Weight total)))
weight_is_over sink total is over = subst (λ n. Decides (λ (done : Unit {0}). done) (NeedsWeight sink) (Err (TooLarge (Weight n)))) (sym is)
    (needs_unmet _ _ (sum sink.weights ≤ 512) (TooLarge (Weight (sum sink.weights))) (λ within. omega (arith, is, over, within)) (too_large_is_alone (Weight (sum sink.weights))))

pub spread_is_within : (sink : SinkData) (total : ℕ) → total ≡ spread sink.rows sink.weights → total ≤ 262144 → Decides (λ (done : Unit {0}). done) (NeedsSpread sink) (Ok tt)
spread_is_within sink total is within = needs_met _ _ (spread sink.rows sink.weights ≤ 262144) (TooLarge (Spread (spread sink.rows sink.weights))) (omega (arith, is, within))

pub spread_is_over : (sink : SinkData) (total : ℕ) → total ≡ spread sink.rows sink.weights → 262144 < total
    → Decides (λ (done : Unit {0}). done) (NeedsSpread sink) (Err (TooLarge (Spread total)))
spread_is_over sink total is over = subst (λ n. Decides (λ (done : Unit {0}). done) (NeedsSpread sink) (Err (TooLarge (Spread n)))) (sym is)
    (needs_unmet _ _ (spread sink.rows sink.weights ≤ 262144) (TooLarge (Spread (spread sink.rows sink.weights))) (λ within. omega (arith, is, over, within)) (too_large_is_alone (Spread (spread sink.rows sink.weights))))
