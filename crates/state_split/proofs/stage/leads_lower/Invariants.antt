use Rattle.state_split.proofs.StageLower.{NoneLower}
use Rattle.state_split.proofs.stage.leads_lower.Given as goal

abbrev pub invariant-loop-edge : goal.invariant-loop-edge
invariant-loop-edge l = NoneLower l.weights l.most l.edges l.edge-index
