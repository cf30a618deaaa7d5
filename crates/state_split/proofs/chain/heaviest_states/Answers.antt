use Rattle.std.proofs.Common.{eqb, map, ap, ◌∙◌, arith}
use Rattle.std.proofs.lemmas.List.{take_all}
use Rattle.state_split.proofs.StageKept.{marks_tell}
use Rattle.state_split.proofs.chain.heaviest_states.Goals as goal

pub returns-clause-marks : goal.returns-clause-marks
returns-clause-marks c =
    let most = c.greatest-most.result in
    let all = take_all c.loop-state.state c.args.weights.now (omega (arith, c.loop-state-test.false, c.len-state-end.ensures.count)) in
    marks_tell c.args.weights.now most c.loop-state.marks.items (c.loop-state.invariant ∙ ap (map (λ weight. eqb weight most)) all)
    c.greatest-most.ensures.most c.greatest-most.ensures.least
