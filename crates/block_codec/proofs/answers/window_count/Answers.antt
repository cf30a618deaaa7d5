use Rattle.std.proofs.Common.{◌≤◌, subst, arith}
use Rattle.code_spec.specs.Code.{CodeData}
use Rattle.block_codec.proofs.AnswerLaws.{few_numbers}
use Rattle.block_codec.proofs.answers.window_count.Goals as goal

pub returns-clause-few : goal.returns-clause-few
returns-clause-few c =
    let less = subst (λ (d : CodeData). c.code.inside.q ≤ d.q) c.code.view_is (omega arith) in
    few_numbers c.args.code.now c.code.inside.q c.window_length.result c.pow.result c.requires less c.window_length.ensures.count c.pow.ensures
