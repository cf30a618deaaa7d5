use Rattle.std.proofs.Common.{◌≡◌, ◌+◌, length, take}
use Rattle.state_split.specs.inside.Parts.{AreSecondParts}
use Rattle.state_split.proofs.parts.second_parts.Given as goal

abbrev pub invariant-loop-split : goal.invariant-loop-split
invariant-loop-split l =
    (length l.parts.items ≡ l.states) × (l.next ≡ l.states + l.split-index) × AreSecondParts (take l.split-index l.splits) l.parts.items
