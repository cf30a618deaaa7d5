use Rattle.std.proofs.Common.{◌≢◌}
use Rattle.std.specs.List.{AllWithin}
use Rattle.shelf_io.proofs.in_memory.MemoryShelf.position.Given as goal

abbrev pub invariant-loop-index : goal.invariant-loop-index
invariant-loop-index l = AllWithin (λ entry. entry.name ≢ l.name) l.file-items 0 l.index
