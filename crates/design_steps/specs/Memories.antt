-- The memory of a cover, as a step: the number of symbols, or why there is none within the limit.
use Rattle.std.specs.Prelude.{◌≢◌, ℕ, ◌≤◌, List, length}
use Rattle.label_graphs.specs.Graph.{EdgeData, HasEdge}
use Rattle.label_graphs.specs.Memory.{IsMemory}
use Rattle.min_cover.specs.declared.fault.MemoryFault.{MemoryFault}
use Rattle.min_cover.specs.declared.fault.MemoryFault.TheVariants as faults
use Rattle.min_cover.specs.MemoryFault.{IsMemoryFault}
use Rattle.command_steps.specs.declared.status.Limit.TheVariants as limits
use Rattle.command_steps.specs.declared.status.Status.{Status}
use Rattle.command_steps.specs.declared.status.Status.TheVariants as statuses
use Rattle.steps.specs.Step.{Reads}
use Rattle.command_steps.specs.Step.{Step}

-- the memory of the cover with these rows, where it is no longer than a memory may be
pub record IsMemoryWithin (rows : List (List EdgeData)) (n : ℕ) : Type 0 where
  pub memory : IsMemory (length rows) (HasEdge rows) n
  pub short : n ≤ 256

abbrev pub memory_status : MemoryFault → Status
memory_status (faults.Infinite two) = statuses.InfiniteMemory two
memory_status (faults.TooLong n) = statuses.TooLarge (limits.MemoryTooLong n)
memory_status faults.NoMemory = statuses.NoMemory

-- the memory, or that there is none, or that it is too long
abbrev pub MemoryOf : List (List EdgeData) → Step ℕ
MemoryOf rows = Reads (IsMemoryWithin rows) (λ fault. IsMemoryFault rows fault × (fault ≢ faults.NoMemory)) memory_status
