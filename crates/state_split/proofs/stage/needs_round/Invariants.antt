use Rattle.state_split.proofs.StageLower.{NoneNeeds}
use Rattle.state_split.proofs.stage.needs_round.Given as goal

abbrev pub invariant-loop-state : goal.invariant-loop-state
invariant-loop-state l = NoneNeeds l.stage.weights l.most l.stage.graph l.state
