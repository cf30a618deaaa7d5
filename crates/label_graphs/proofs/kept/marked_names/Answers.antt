use Rattle.std.proofs.Common.{ap, ◌∙◌}
use Rattle.label_graphs.specs.inside.Numbers.{is_marked}
use Rattle.label_graphs.proofs.Ranks.{named_more, named_same}
use Rattle.label_graphs.proofs.kept.marked_names.Goals.{then-mark+in_ok-push, else-mark}
use Rattle.label_graphs.proofs.kept.marked_names.Goals as goal

pub loop-state-preserved : goal.loop-state-preserved
loop-state-preserved g c =
    let number = g.N.Name.number in
    let test = is_marked c.args.marks.now in
    let n = c.loop-state.state in
    let old = c.loop-state.names.items in
    elim c.if-mark.branch [
      | then-mark+in_ok-push w ↦
          named_more number test n old c.if-mark.names.items w.at.result c.loop-state.invariant w.at.ensures.again w.if-mark.true
          (ap (λ v. v.items) w.names-is ∙ w.in_ok-push.ensures.items)
      | else-mark w ↦ named_same number test n old c.if-mark.names.items c.loop-state.invariant w.if-mark.false (ap (λ v. v.items) w.names-is)
    ]
