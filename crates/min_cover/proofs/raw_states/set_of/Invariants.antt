use Rattle.std.proofs.Common.{ℕ, take, nat_eq}
use Rattle.std.specs.List.{list_any}
use Rattle.min_cover.specs.inside.States.{Marks}
use Rattle.min_cover.proofs.raw_states.set_of.Given as goal

abbrev pub invariant-loop-state : goal.invariant-loop-state
invariant-loop-state l = Marks (λ (state : ℕ). list_any (nat_eq state) (take l.state-index l.states)) l.marks
