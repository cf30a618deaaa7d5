use Rattle.std.proofs.Common.{◌≡◌, ◌+◌, ◌^◌, ◌<◌, ◌++◌, length, drop}
use Rattle.edge_store.specs.Divide.{marked, unmarked}
use Rattle.edge_store.proofs.rows.RowList.divide.Given as goal

abbrev pub invariant-loop-mark : goal.invariant-loop-mark
invariant-loop-mark g l = (l.kept ++ unmarked (drop l.mark-index l.marks) l.self ≡ unmarked l.marks l.initial.self)
    × (l.handed ++ marked (drop l.mark-index l.marks) l.self ≡ marked l.marks l.initial.self)
    × (length l.self + l.mark-index ≡ length l.marks) × (length l.kept + length l.handed + length l.self ≡ length l.marks) × (length l.marks < 2 ^ 32)
