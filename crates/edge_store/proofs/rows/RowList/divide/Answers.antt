use Rattle.std.proofs.Common.{not, get_or, false, length, ◌<◌, ◌∙◌, arith}
use Rattle.edge_store.specs.Divide.{marked, unmarked}
use Rattle.edge_store.proofs.Divided.{chosen-next, chosen-done, counted}
use Rattle.edge_store.proofs.rows.RowList.divide.Goals as goal

pub loop-mark-preserved : goal.loop-mark-preserved
unfolding marked unmarked
loop-mark-preserved g c =
    let at = c.loop-mark in
    let held = at.invariant in
    let marks = c.args.marks.now in
    let within = c.loop-mark-test.true in
    let some : 0 < length at.self = omega arith in
    let new = c.deal_first.new in
    let dealt = c.deal_first.ensures in
    let all = counted (get_or marks at.mark-index false) at.self new.self at.kept new.kept at.handed new.handed some dealt.rest dealt.kept dealt.handed in (
      chosen-next not marks at.mark-index at.self new.self at.kept new.kept _ within some dealt.rest dealt.kept held.0,
      chosen-next (λ m. m) marks at.mark-index at.self new.self at.handed new.handed _ within some dealt.rest dealt.handed held.1,
      omega arith,
      omega arith,
      held.4,
    )

pub returns-clause-kept : goal.returns-clause-kept
unfolding unmarked
returns-clause-kept g c = let past = c.loop-mark-test.false in c.replace.ensures.after ∙ chosen-done not c.args.marks.now c.loop-mark.mark-index c.loop-mark.self c.loop-mark.kept _ (omega arith) c.loop-mark.invariant.0

pub returns-clause-handed : goal.returns-clause-handed
unfolding marked
returns-clause-handed g c = let past = c.loop-mark-test.false in chosen-done (λ m. m) c.args.marks.now c.loop-mark.mark-index c.loop-mark.self c.loop-mark.handed _ (omega arith) c.loop-mark.invariant.1
