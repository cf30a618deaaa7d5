use Rattle.std.proofs.Common.{◌≡◌, take}
use Rattle.state_split.specs.inside.Parts.{ArePartWeights}
use Rattle.state_split.proofs.parts.weights_of_parts.Given as goal

abbrev pub invariant-loop-state : goal.invariant-loop-state
invariant-loop-state l = l.list.items ≡ take l.state l.weights

abbrev pub invariant-loop-split : goal.invariant-loop-split
invariant-loop-split l = ArePartWeights l.weights (take l.split-index l.splits) l.list.items
