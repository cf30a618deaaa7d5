use Rattle.std.proofs.Common.{ℕ, get_or, false, ap, ◌∙◌}
use Rattle.min_cover.proofs.StateMarks.{filter_taken, filter_left}
use Rattle.min_cover.proofs.raw_states.marked_states.Goals.{then-marks-state+in_ok-push, else-marks-state}
use Rattle.min_cover.proofs.raw_states.marked_states.Goals as goal

pub loop-state-preserved : goal.loop-state-preserved
loop-state-preserved c =
    let test = λ (state : ℕ). get_or c.args.marks.now state false in
    let state = c.loop-state.state in
    elim c.if-marks-state.branch [
      | then-marks-state+in_ok-push w ↦ ap (λ v. v.items) w.states-is
          ∙ filter_taken test state c.loop-state.states.items _ c.loop-state.invariant w.if-marks-state.true w.in_ok-push.ensures.items
      | else-marks-state w ↦ ap (λ v. v.items) w.states-is
          ∙ filter_left test state c.loop-state.states.items c.loop-state.invariant w.if-marks-state.false
    ]
