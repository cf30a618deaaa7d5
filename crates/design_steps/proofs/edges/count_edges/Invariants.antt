use Rattle.std.proofs.Common.{◌≡◌, take}
use Rattle.label_graphs.specs.Power.{edge_count}
use Rattle.design_steps.proofs.edges.count_edges.Given as goal

abbrev pub invariant-loop-state : goal.invariant-loop-state
invariant-loop-state l = l.count ≡ edge_count (take l.state l.power)
