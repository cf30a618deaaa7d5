-- The rounds of splitting, as a step that is never refused, and a design up to its last round.
use Rattle.std.specs.Prelude.{ℕ, ◌^◌}
use Rattle.constraint_spec.specs.Constraint.{ConstraintData}
use Rattle.split_spec.specs.Weighted.{WeightedData}
use Rattle.split_spec.specs.Chain.{ChainData, IsChain}
use Rattle.steps.specs.Step.{◌>>=◌, Gives, Finds}
use Rattle.command_steps.specs.Step.{Step}
use Rattle.design_steps.specs.Begun.{BegunData, BeginsWith}
use Rattle.design_steps.specs.Sinks.{SinkData}

-- the sink as a graph with weights
abbrev pub weighted_sink : SinkData → WeightedData
weighted_sink sink = record { rows = sink.rows; weights = sink.weights }

-- the chain of rounds that are made of a sink, which is always there
abbrev pub ChainOf : ℕ → SinkData → Step ChainData
ChainOf n sink = Finds (IsChain n (weighted_sink sink))

-- what a design begins with, and its rounds
pub record SplitDesignData : Type 0 where
  pub begun : BegunData
  pub chain : ChainData

-- for p data bits and q symbols a block, with weights up to the bound
unfoldable pub SplitsInto : ConstraintData → ℕ → ℕ → ℕ → Step SplitDesignData
SplitsInto c p q bound = do
  begun ← BeginsWith c p q bound
  chain ← ChainOf (2 ^ p) begun.sink
  Gives (record { begun = begun; chain = chain })
