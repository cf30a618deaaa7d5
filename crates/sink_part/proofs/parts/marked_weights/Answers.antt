use Rattle.std.proofs.Common.{ℕ, List, ◌∷◌, ◌++◌, [], length, get_or, ap, sym, ◌∙◌, arith}
use Rattle.sink_part.proofs.Passing.{items_more, items_same, no_more_items}
use Rattle.sink_part.proofs.parts.marked_weights.Goals.{then-marks-state+in_ok-push, else-marks-state}
use Rattle.sink_part.proofs.parts.marked_weights.Goals as goal

pub loop-state-preserved : goal.loop-state-preserved
loop-state-preserved c =
    let weights = c.args.weights.now in
    let marks = c.args.marks.now in
    let n = c.loop-state.state in
    elim c.if-marks-state.branch [
      | then-marks-state+in_ok-push w ↦
          ap (λ v. v.items) w.list-is ∙ w.in_ok-push.ensures.items ∙ ap (λ (k : ℕ). c.loop-state.list.items ++ k ∷ []) w.at.ensures
          ∙ ap (λ (xs : List ℕ). xs ++ get_or weights n 0 ∷ []) c.loop-state.invariant ∙ sym (items_more weights marks n w.if-marks-state.true)
      | else-marks-state w ↦ ap (λ v. v.items) w.list-is ∙ c.loop-state.invariant ∙ sym (items_same weights marks n w.if-marks-state.false)
    ]

pub from_list-requires : goal.from_list-requires
from_list-requires c =
    omega (
      arith,
      ap (λ (xs : List ℕ). length xs) c.loop-state.invariant,
      no_more_items c.args.weights.now c.args.marks.now c.loop-state.state,
      c.loop-state.auto.state-end,
      c.len-state-end.type_inv,
    )
