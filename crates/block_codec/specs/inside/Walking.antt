-- A walk over the last blocks of a window, step by step.
use Rattle.std.specs.Prelude.{◌≡◌, ℕ, ◌+◌, ◌<◌, ◌≤◌, List, length, slice_index_or}
use Rattle.symbol_base.specs.declared.Block.{Block}
use Rattle.code_spec.specs.Code.{CodeData, IsState, IsDataWord}
use Rattle.code_spec.specs.Output.{row_at}
use Rattle.block_codec.specs.Decoding.{block_of}
use Rattle.block_codec.specs.declared.survivors.Step.{Step}
use Rattle.block_codec.specs.declared.walk.Walk.{Walk}

-- what stands behind the last step: the state to which it leads
abbrev pub end_step : ℕ → Step
end_step end = record { state = end; word = 0 }

-- the step at a place, and behind the last the end
abbrev pub step_at : List Step → ℕ → ℕ → Step
step_at steps end place = slice_index_or steps place (end_step end)

-- the step is one of the code that writes the block and leads to the state
pub record IsStepTo (c : CodeData) (step : Step) (block : Block) (to : ℕ) : Type 0 where
  pub inside : IsState c step.state
  pub below : IsDataWord c step.word
  pub writes : (row_at c.rows step.state step.word).block ≡ block
  pub leads : (row_at c.rows step.state step.word).to ≡ to

-- the steps from one place to another write the blocks there, each leading to the next
pub record AreSteps (c : CodeData) (blocks : List Block) (steps : List Step) (end from to : ℕ) : Type 0 where
  pub each : (place : ℕ) → from ≤ place → place < to
      → IsStepTo c (step_at steps end place) (slice_index_or blocks place (block_of 0)) (step_at steps end (place + 1)).state

-- as many steps as blocks, and those from the start up to a place are the walk's
pub record IsKept (c : CodeData) (blocks : List Block) (walk : Walk) (to : ℕ) : Type 0 where
  pub count : length walk.steps.items ≡ length blocks
  pub steps : AreSteps c blocks walk.steps.items walk.end walk.start to

-- the walk writes the last blocks from its start on
abbrev pub IsWalkOver : CodeData → List Block → Walk → Type 0
IsWalkOver c blocks walk = IsKept c blocks walk (length blocks)
