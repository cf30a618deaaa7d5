use Rattle.std.proofs.Common.{◌≡◌, take}
use Rattle.std.specs.List.{range_with_len}
use Rattle.state_split.specs.inside.Parts.{part_parents}
use Rattle.state_split.proofs.parts.parents_of_parts.Given as goal

abbrev pub invariant-loop-state : goal.invariant-loop-state
invariant-loop-state l = l.parents.items ≡ range_with_len 0 l.state

abbrev pub invariant-loop-split : goal.invariant-loop-split
invariant-loop-split l = l.parents.items ≡ part_parents l.states (take l.split-index l.splits)
