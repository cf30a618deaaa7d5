-- The power of a cover, as a step: its rows, or the count of its edges that is over the limit.
use Rattle.std.specs.Prelude.{◌≢◌, ℕ, ◌≤◌, List}
use Rattle.label_graphs.specs.Graph.{EdgeData}
use Rattle.label_graphs.specs.Cover.{CoverData}
use Rattle.label_graphs.specs.Power.{IsPower, edge_count}
use Rattle.graph_power.specs.declared.fault.PowerFault.{PowerFault}
use Rattle.graph_power.specs.declared.fault.PowerFault.TheVariants as faults
use Rattle.graph_power.specs.PowerFault.{IsPowerFault}
use Rattle.command_steps.specs.declared.status.Limit.TheVariants as limits
use Rattle.command_steps.specs.declared.status.Status.{Status}
use Rattle.command_steps.specs.declared.status.Status.TheVariants as statuses
use Rattle.steps.specs.Step.{Reads}
use Rattle.command_steps.specs.Step.{Step}

-- the rows of the q-th power, where their edges are not too many
pub record IsPowerWithin (cover : CoverData) (q : ℕ) (rows : List (List EdgeData)) : Type 0 where
  pub power : IsPower cover q rows
  pub few : edge_count rows ≤ 262144

abbrev pub power_status : PowerFault → Status
power_status (faults.PowerEdges count) = statuses.TooLarge (limits.PowerEdges count)
power_status faults.NoMemory = statuses.NoMemory

-- the power, or that it has too many edges
abbrev pub PowerOf : CoverData → ℕ → Step (List (List EdgeData))
PowerOf cover q = Reads (IsPowerWithin cover q) (λ fault. IsPowerFault cover q fault × (fault ≢ faults.NoMemory)) power_status
