use Rattle.state_split.specs.Views.{weighted}
use Rattle.state_split.specs.inside.Classes.{HoldWeights}
use Rattle.state_split.specs.inside.Splits.{AreSplitsBelow}
use Rattle.state_split.proofs.round.round_of.Given as goal

abbrev pub invariant-loop-state : goal.invariant-loop-state
invariant-loop-state l =
    HoldWeights l.room l.weights
    × AreSplitsBelow l.n (weighted l.graph l.weights) l.state l.splits.items
