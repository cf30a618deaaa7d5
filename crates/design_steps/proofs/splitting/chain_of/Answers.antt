use Rattle.std.proofs.Common.{◌^◌}
use Rattle.design_steps.specs.Views.{sink_data}
use Rattle.design_steps.proofs.ChainLaws.{chain_is_made}
use Rattle.design_steps.proofs.splitting.chain_of.Goals as goal

pub returns-clause-step : goal.returns-clause-step
returns-clause-step c = chain_is_made (2 ^ c.args.p) (sink_data c.args.sink) c.in_ok-split_all.field-0 c.in_ok-split_all.ensures.chain
