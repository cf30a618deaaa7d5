use Rattle.std.proofs.Common.{refl, false, ap, ◌∙◌}
use Rattle.std.specs.List.{range_with_len}
use Rattle.constraint_spec.specs.Constraint.{ConstraintData}
use Rattle.min_cover.specs.declared.raw_states.StateKey.{StateKey}
use Rattle.min_cover.proofs.StateMarks.{filter_all}
use Rattle.min_cover.proofs.KeySteps.{first_same}
use Rattle.min_cover.proofs.raw_states.first_state.Goals as goal

pub returns-clause-key : goal.returns-clause-key
returns-clause-key c =
    let key : StateKey = record { after_one = false; zeros = 0; matched = c.from_vec.result; ends = c.in_ok-marked_states.field-0 } in
    first_same c.args.constraint.now key refl refl (c.from_vec.ensures ∙ c.new.ensures.items)
    (c.in_ok-marked_states.ensures ∙ filter_all c.constraint.inside.states c.constraint.invariant.states
    ∙ ap (λ (d : ConstraintData). range_with_len 0 d.states) c.constraint.view_is)
