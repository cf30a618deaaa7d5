use Rattle.std.proofs.Common.{◌*◌, ◌^◌, ◌≤◌, refl, subst, arith}
use Rattle.code_spec.specs.Code.{CodeData}
use Rattle.block_codec.proofs.AnswerLaws.{few_numbers}
use Rattle.block_codec.proofs.answers.list_count.Goals as goal

pub pow-requires : goal.pow-requires
pow-requires c =
    let less = subst (λ (d : CodeData). c.code.inside.p ≤ d.q) c.code.view_is c.code.invariant.q.0 in
    let few = few_numbers c.args.code.now c.code.inside.p c.window_length.result (2 ^ (c.code.inside.p * c.window_length.result)) c.requires less c.window_length.ensures.count refl in
    omega (arith, few)

pub returns-clause-few : goal.returns-clause-few
returns-clause-few c =
    let less = subst (λ (d : CodeData). c.code.inside.p ≤ d.q) c.code.view_is c.code.invariant.q.0 in
    few_numbers c.args.code.now c.code.inside.p c.window_length.result c.pow.result c.requires less c.window_length.ensures.count c.pow.ensures
