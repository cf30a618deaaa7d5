use Rattle.std.proofs.Common.{◌≡◌, eqb, map, take}
use Rattle.state_split.proofs.chain.heaviest_states.Given as goal

abbrev pub invariant-loop-state : goal.invariant-loop-state
invariant-loop-state l = l.marks.items ≡ map (λ weight. eqb weight l.most) (take l.state l.weights)
