use Rattle.std.proofs.Common.{◌≡◌, ◌+◌, ◌-◌, ◌*◌, ◌/◌, ◌%◌, ◌^◌, ◌<◌, take, ap, sym, subst, ◌∙◌, arith}
use Rattle.code_spec.specs.Code.{CodeData}
use Rattle.code_spec.specs.Walks.{IsWalkOf}
use Rattle.block_codec.specs.inside.Answers.{blocks_in, words_in}
use Rattle.block_codec.proofs.AnswerLaws.{written_more, written_all}
use Rattle.block_codec.proofs.answers.written.Goals as goal

pub loop-i-preserved : goal.loop-i-preserved
loop-i-preserved c =
    let code = c.args.code.now in
    let number = c.args.number in
    let i = c.loop-i.i in
    let value = c.value_step-value.result.0 in
    let next = c.value_step-value.result.1 in
    let held = c.loop-i.invariant in
    let behind = c.window_length-length.result - 1 - i in
    let word_is = c.digit_of-word.ensures.value ∙ ap (λ (d : CodeData). number / 2 ^ (d.p * behind) % 2 ^ d.p) c.code.view_is in
    let small = subst (λ (d : CodeData). c.digit_of-word.result < 2 ^ d.p) c.code.view_is c.digit_of-word.ensures.below in
    let place_is : c.joined-place.result ≡ c.loop-i.place * 2 ^ code.q + value = c.joined-place.ensures.value ∙ ap (λ (d : CodeData). c.loop-i.place * 2 ^ d.q + value) c.code.view_is in
    let more = code.q * i + code.q in
    let whole : more ≡ code.q * (i + 1) = grind arith in
    let below : c.joined-place.result < 2 ^ more = subst (λ (d : CodeData). c.joined-place.result < 2 ^ (d.q * i + d.q)) c.code.view_is c.joined-place.ensures.below in
    let walk =
    written_more code c.args.state c.loop-i.at next number i behind c.loop-i.place value c.digit_of-word.result (omega (arith, c.loop-i-test.true, c.window_length-length.ensures.count))
    (omega (arith, c.window_length-length.ensures.count)) held.walk held.below word_is small c.value_step-value.ensures.block c.value_step-value.ensures.below c.value_step-value.ensures.next in
    record {
      inside = c.value_step-value.ensures.inside;
      below = subst (λ n. c.joined-place.result < 2 ^ n) whole below;
      walk = subst (λ n. IsWalkOf code c.args.state (take (i + 1) (words_in code number)) (blocks_in code.q (i + 1) n) next) (sym place_is) walk;
    }

pub returns-clause-writes : goal.returns-clause-writes
returns-clause-writes c =
    written_all c.args.code.now c.args.state c.loop-i.at c.args.number c.loop-i.i c.loop-i.place (omega (arith, c.loop-i-test.false, c.loop-i.auto.i-end, c.window_length-length.ensures.count)) c.loop-i.invariant.walk
