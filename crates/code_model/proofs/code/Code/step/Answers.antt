use Rattle.std.proofs.Common.{arith, ap}
use Rattle.code_spec.specs.declared.CodeRow.{CodeRow}
use Rattle.code_spec.proofs.OutputLaws.{row_in_range}
use Rattle.code_model.proofs.code.Code.step.Goals as goal

pub returns-clause-inside : goal.returns-clause-inside
returns-clause-inside c =
    let range = row_in_range c.args.self.now c.args.state c.args.word c.row-row.ensures.table c.requires.state c.requires.word in
    omega (arith, range.1, ap (λ (row : CodeRow). row.to) c.row-row.ensures.row)
