use Rattle.design_steps.specs.Views.{sink_data}
use Rattle.design_steps.proofs.SinkLaws.{sink_is_weighted}
use Rattle.design_steps.proofs.stages.found_sink.Goals as goal

pub returns-clause-weighted : goal.returns-clause-weighted
returns-clause-weighted c =
    let found = c.in_ok-sink.ensures in
    sink_is_weighted c.args.power.now c.args.weights.now (sink_data c.in_ok-sink.field-0) c.args.n
    (record { least = found.least; graph = found.graph; size = found.size; edges = found.edges; weights = found.weights }) found.inequality
