-- What a chain of rounds stands for.
use Rattle.split_spec.specs.Chain.{ChainData}
use Rattle.state_split.specs.declared.chain.Chain.{Chain}
use Rattle.state_split.specs.Views.{rounds_data, weighted}

abbrev pub chain_data : Chain → ChainData
chain_data chain = record {
  sink = weighted chain.sink.graph chain.sink.weights;
  rounds = rounds_data chain.rounds.items;
  kept = chain.kept.items;
  last = chain.last;
  parents = chain.parents;
}
