use Rattle.std.proofs.Common.{ℕ, List, nat_eq, subst, arith}
use Rattle.std.specs.List.{list_any}
use Rattle.std.proofs.lemmas.List.{take_all}
use Rattle.min_cover.specs.inside.States.{Marks}
use Rattle.min_cover.proofs.StateMarks.{marks_none, marks_listed}
use Rattle.min_cover.proofs.raw_states.set_of.Goals as goal

pub loop-state-init : goal.loop-state-init
loop-state-init c = marks_none

pub loop-state-preserved : goal.loop-state-preserved
loop-state-preserved c =
    marks_listed c.args.states.now c.loop-state.state-index c.loop-state.marks c.loop-state-test.true
    (omega (arith, c.type_inv.states c.loop-state.state-index)) c.loop-state.invariant

pub returns : goal.returns
returns c =
    subst (λ (states : List ℕ). Marks (λ (state : ℕ). list_any (nat_eq state) states) c.loop-state.marks)
    (take_all c.loop-state.state-index c.args.states.now c.loop-state-test.false) c.loop-state.invariant
