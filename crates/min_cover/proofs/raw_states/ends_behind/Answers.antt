use Rattle.std.proofs.Common.{ℕ, List, filter, false, get_or, ap, ◌∙◌, subst}
use Rattle.std.specs.List.{range_with_len}
use Rattle.constraint_spec.specs.declared.GraphEdge.{GraphEdge}
use Rattle.min_cover.specs.inside.States.{Marks}
use Rattle.constraint_spec.specs.Constraint.{ConstraintData}
use Rattle.constraint_spec.specs.RawStateOf.{is_led}
use Rattle.min_cover.proofs.StateMarks.{filter_marked}
use Rattle.min_cover.proofs.KeySteps.{ok_same}
use Rattle.min_cover.proofs.raw_states.ends_behind.Goals as goal

pub returns : goal.returns
returns c =
    let edges = c.constraint.inside.edges.items in
    let states = c.constraint.inside.states in
    let from = c.args.ends.now in
    let marks = c.led_states-marks.result in
    ok_same c.marked_states.result (filter (λ (state : ℕ). get_or marks state false) (range_with_len 0 states))
    (filter (is_led c.args.constraint.now.edges from c.args.symbol) (range_with_len 0 c.args.constraint.now.states))
    (filter_marked (is_led edges from c.args.symbol) marks states c.constraint.invariant.states
    (subst (λ (edges : List GraphEdge). Marks (is_led edges from c.args.symbol) marks) c.deref.ensures.value c.led_states-marks.ensures)
    ∙ ap (λ (d : ConstraintData). filter (is_led d.edges from c.args.symbol) (range_with_len 0 d.states)) c.constraint.view_is)
    c.marked_states.ensures
