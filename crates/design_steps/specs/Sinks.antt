-- The sink of a power with weights, as steps: the sink with its edges and weights, or the sum that is over its limit.
use Rattle.std.specs.Prelude.{◌≡◌, ℕ, ◌≤◌, List, length, map, slice_index}
use Rattle.std.specs.List.{sum}
use Rattle.label_graphs.specs.Graph.{EdgeData, IsGraph}
use Rattle.label_graphs.specs.Sink.{IsLeastSink, AreEdgesAmong, spread}
use Rattle.command_steps.specs.declared.status.Limit.TheVariants.{Weight, Spread}
use Rattle.command_steps.specs.declared.status.Status.TheVariants.{TooLarge}
use Rattle.steps.specs.Step.{◌>>=◌, Gives, Needs, Finds}
use Rattle.command_steps.specs.Step.{Step}

-- some states of a graph, in ascending order, with the edges among them and their weights
pub record SinkData : Type 0 where
  pub states : List ℕ
  pub rows : List (List EdgeData)
  pub weights : List ℕ

-- the least sink of a power with weights, and the graph that it is
pub record IsSinkOf (power : List (List EdgeData)) (x : List ℕ) (sink : SinkData) : Type 0 where
  pub least : IsLeastSink power x sink.states
  pub graph : IsGraph sink.rows
  pub size : length sink.rows ≡ length sink.states
  pub edges : AreEdgesAmong power sink.states sink.rows
  pub weights : sink.weights ≡ map (λ state. slice_index x state) sink.states

-- the sink, which is always there
abbrev pub FindsSink : List (List EdgeData) → List ℕ → Step SinkData
FindsSink power x = Finds (IsSinkOf power x)

-- the sums of a sink are within their limits
abbrev pub NeedsWeight : SinkData → Step (Unit {0})
NeedsWeight sink = Needs (sum sink.weights ≤ 512) (TooLarge (Weight (sum sink.weights)))

abbrev pub NeedsSpread : SinkData → Step (Unit {0})
NeedsSpread sink = Needs (spread sink.rows sink.weights ≤ 262144) (TooLarge (Spread (spread sink.rows sink.weights)))

unfoldable pub SinkOf : List (List EdgeData) → List ℕ → Step SinkData
SinkOf power x = do
  sink ← FindsSink power x
  light ← NeedsWeight sink
  narrow ← NeedsSpread sink
  Gives sink
