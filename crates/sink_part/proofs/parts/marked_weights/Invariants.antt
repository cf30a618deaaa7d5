use Rattle.std.proofs.Common.{◌≡◌, map, get_or}
use Rattle.label_graphs.specs.inside.Numbers.{is_marked, passing}
use Rattle.sink_part.proofs.parts.marked_weights.Given as goal

abbrev pub invariant-loop-state : goal.invariant-loop-state
invariant-loop-state l = l.list.items ≡ map (λ state. get_or l.weights state 0) (passing (is_marked l.marks) l.state)
