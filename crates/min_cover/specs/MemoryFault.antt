-- Why the memory of a cover isn't given.
use Rattle.std.specs.Prelude.{ℕ, ◌<◌, List, length}
use Rattle.label_graphs.specs.Graph.{EdgeData, HasEdge}
use Rattle.label_graphs.specs.Memory.{EndTogether, IsMemory, IsLeastReadBack}
use Rattle.min_cover.specs.declared.fault.MemoryFault.{MemoryFault}
use Rattle.min_cover.specs.declared.fault.MemoryFault.TheVariants.{Infinite, TooLong, NoMemory}

-- There is no such length, and these are the least two states that read one word back to themselves; or the memory
-- is the told one, more than 256; or memory was wanted.
abbrev pub IsMemoryFault : List (List EdgeData) → MemoryFault → Type 0
IsMemoryFault rows (Infinite two) =
    ((n : ℕ) → EndTogether (length rows) (HasEdge rows) n → ⊥)
    × IsLeastReadBack (length rows) (HasEdge rows) two.first two.second two.word
IsMemoryFault rows (TooLong n) = (256 < n) × IsMemory (length rows) (HasEdge rows) n
IsMemoryFault rows NoMemory = Unit {0}
