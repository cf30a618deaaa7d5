use Rattle.std.proofs.Common.{◌≡◌, take}
use Rattle.state_split.proofs.stage.copy_weights.Given as goal

abbrev pub invariant-loop-state : goal.invariant-loop-state
invariant-loop-state l = l.list.items ≡ take l.state l.weights
