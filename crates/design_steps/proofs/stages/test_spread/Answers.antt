use Rattle.std.proofs.Common.{arith}
use Rattle.design_steps.specs.Views.{sink_data}
use Rattle.design_steps.proofs.SinkLaws.{spread_is_within, spread_is_over}
use Rattle.design_steps.proofs.stages.test_spread.Goals as goal

pub returns-then-total-gt-MOST_SPREAD : goal.returns-then-total-gt-MOST_SPREAD
returns-then-total-gt-MOST_SPREAD c = spread_is_over (sink_data c.args.sink.now) c.spread-total.result c.spread-total.ensures (omega (arith, c.if-total-gt-MOST_SPREAD.true))

pub returns : goal.returns
returns c = spread_is_within (sink_data c.args.sink.now) c.spread-total.result c.spread-total.ensures (omega (arith, c.if-total-gt-MOST_SPREAD.false))
