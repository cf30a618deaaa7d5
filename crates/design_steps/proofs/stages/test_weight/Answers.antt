use Rattle.std.proofs.Common.{arith}
use Rattle.design_steps.specs.Views.{sink_data}
use Rattle.design_steps.proofs.SinkLaws.{weight_is_within, weight_is_over}
use Rattle.design_steps.proofs.stages.test_weight.Goals as goal

pub returns-then-total-gt-MOST_WEIGHT-clause-step : goal.returns-then-total-gt-MOST_WEIGHT-clause-step
returns-then-total-gt-MOST_WEIGHT-clause-step c = weight_is_over (sink_data c.args.sink.now) c.total-total.result c.total-total.ensures (omega (arith, c.if-total-gt-MOST_WEIGHT.true))

pub returns-clause-step : goal.returns-clause-step
returns-clause-step c = weight_is_within (sink_data c.args.sink.now) c.total-total.result c.total-total.ensures (omega (arith, c.if-total-gt-MOST_WEIGHT.false))
