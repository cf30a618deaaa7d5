-- What the values of a design stand for.
use Rattle.label_graphs.specs.declared.sink_graph.SinkGraph.{SinkGraph}
use Rattle.state_split.specs.Chains.{chain_data}
use Rattle.design_steps.specs.declared.splitting.SplitDesign.{SplitDesign}
use Rattle.design_steps.specs.Sinks.{SinkData}
use Rattle.design_steps.specs.Chains.{SplitDesignData}

abbrev pub sink_data : SinkGraph → SinkData
sink_data sink = record { states = sink.parents; rows = sink.graph; weights = sink.weights }

abbrev pub split_design_data : SplitDesign → SplitDesignData
split_design_data design = record {
  begun = record {
    cover = design.cover;
    memory = design.memory;
    power = design.power;
    vector = record { bound = design.bound; weights = design.weights };
    sink = sink_data design.chain.sink;
  };
  chain = chain_data design.chain;
}
