-- The cover of a constraint, as a step: the graph, or the count that is over its limit.
use Rattle.std.specs.Prelude.{◌≡◌, ◌≢◌, ◌≤◌, length}
use Rattle.constraint_spec.specs.Constraint.{ConstraintData, IsWordOf}
use Rattle.label_graphs.specs.Graph.{IsGraph}
use Rattle.label_graphs.specs.Cover.{CoverData, IsCoverOf}
use Rattle.min_cover.specs.declared.fault.CoverFault.{CoverFault}
use Rattle.min_cover.specs.declared.fault.CoverFault.TheVariants as faults
use Rattle.min_cover.specs.CoverFault.{IsCoverFault}
use Rattle.min_cover.specs.StateCounts.{HaveRawStates}
use Rattle.command_steps.specs.declared.status.Limit.TheVariants as limits
use Rattle.command_steps.specs.declared.status.Status.{Status}
use Rattle.command_steps.specs.declared.status.Status.TheVariants as statuses
use Rattle.steps.specs.Step.{Reads}
use Rattle.command_steps.specs.Step.{Step}

-- the cover, where neither its raw states nor its own states are too many
pub record IsCoverWithin (c : ConstraintData) (cover : CoverData) : Type 0 where
  pub is : IsCoverOf (IsWordOf c) cover.graph
  pub graph : IsGraph cover.graph
  pub alphabet : cover.alphabet ≡ c.alphabet
  pub few_raw : HaveRawStates c 4097 → ⊥
  pub few : length cover.graph ≤ 256

abbrev pub cover_status : CoverFault → Status
cover_status (faults.RawStates count) = statuses.TooLarge (limits.RawStates count)
cover_status (faults.CoverStates count) = statuses.TooLarge (limits.CoverStates count)
cover_status faults.NoMemory = statuses.NoMemory

-- the cover, or the first count that is too large
abbrev pub CoverOf : ConstraintData → Step CoverData
CoverOf c = Reads (IsCoverWithin c) (λ fault. IsCoverFault c fault × (fault ≢ faults.NoMemory)) cover_status
