use Rattle.std.proofs.Common.{inl, ap, ◌≡◌, ◌<◌, ◌∙◌, get_or, length, sym, subst, arith}
use Rattle.code_spec.specs.Code.{CodeData}
use Rattle.code_spec.specs.Decoder.{IsFound}
use Rattle.block_codec.specs.declared.survivors.Step.{Step}
use Rattle.block_codec.specs.inside.Walking.{AreSteps}
use Rattle.block_codec.proofs.WalkingLaws.{found_by_steps}
use Rattle.block_codec.proofs.walk.Walk.answer.Goals as goal

pub returns-clause-answer : goal.returns-clause-answer
returns-clause-answer c =
    let code = c.args.code.now in
    let window = c.args.window.now in
    let walk = c.args.self.now in
    let steps = walk.steps.items in
    let step = c.index.result.now in
    let past : c.code.inside.past ≡ code.past = ap (λ (d : CodeData). d.past) c.code.view_is in
    let start : walk.start ≡ 0 = omega (arith, c.if-self-gt0.false) in
    let inside : code.past < length window = omega (arith, c.requires.count) in
    let kept = subst (λ n. AreSteps code window steps walk.end n (length window)) start c.requires.walk.steps in
    let word : c.from.result ≡ (get_or steps code.past step).word = c.from.ensures ∙ ap (λ (s : Step). s.word) (c.index.ensures ∙ ap (λ n. get_or steps n step) past) in
    inl (subst (λ w. IsFound code window w) (sym word) (found_by_steps code window steps walk.end step c.requires.walk.count inside kept))
