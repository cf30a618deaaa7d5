use Rattle.std.proofs.Common.{◌∙◌}
use Rattle.command_steps.proofs.PrintLaws.{print_step}
use Rattle.command_steps.proofs.printing.print_all.Goals as goal

pub loop-at-preserved : goal.loop-at-preserved
loop-at-preserved g c =
    let put = c.in_ok-at.ensures in
    let step = print_step c.args.bytes.now c.loop-at.at c.in_ok-at.field-0 _ _ _ c.loop-at-test.true put.bound put.some c.loop-at.invariant.text put.takes in
    record { within = step.1; text = step.2; count = put.count ∙ c.loop-at.invariant.count }
