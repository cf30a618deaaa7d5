-- What the design of a code begins with, as a row of steps: the cover of a constraint and its memory, the power of
-- the cover, an approximate eigenvector, and the sink that states are split in. The first step that is refused decides.
use Rattle.std.specs.Prelude.{ℕ, ◌^◌, List}
use Rattle.constraint_spec.specs.Constraint.{ConstraintData}
use Rattle.label_graphs.specs.Graph.{EdgeData}
use Rattle.label_graphs.specs.Cover.{CoverData}
use Rattle.steps.specs.Step.{◌>>=◌, Gives}
use Rattle.command_steps.specs.Step.{Step}
use Rattle.design_steps.specs.Covers.{CoverOf}
use Rattle.design_steps.specs.Memories.{MemoryOf}
use Rattle.design_steps.specs.Powers.{PowerOf}
use Rattle.design_steps.specs.Vectors.{VectorData, VectorOf}
use Rattle.design_steps.specs.Sinks.{SinkData, SinkOf}

pub record BegunData : Type 0 where
  pub cover : CoverData
  pub memory : ℕ
  pub power : List (List EdgeData)
  pub vector : VectorData
  pub sink : SinkData

-- for p data bits and q symbols a block, with weights up to the bound
unfoldable pub BeginsWith : ConstraintData → ℕ → ℕ → ℕ → Step BegunData
BeginsWith c p q bound = do
  cover ← CoverOf c
  memory ← MemoryOf cover.graph
  power ← PowerOf cover q
  vector ← VectorOf power (2 ^ p) bound
  sink ← SinkOf power vector.weights
  Gives (record { cover = cover; memory = memory; power = power; vector = vector; sink = sink })
