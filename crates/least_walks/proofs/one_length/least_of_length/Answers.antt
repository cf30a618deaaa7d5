use Rattle.std.proofs.Common.{◌+◌, arith}
use Rattle.least_walks.proofs.LayerSteps.{layer_at}
use Rattle.least_walks.proofs.one_length.least_of_length.Goals as goal

pub first_start-requires : goal.first_start-requires
first_start-requires g c = record {
  layer =
      layer_at (g.G.ImplicitGraph.graph c.args.graph.now) (g.G.PairGraph.words c.args.graph.now) c.args.ahead (c.args.last + 1)
      c.args.last c.in_ok-layers.layers.items c.index.result.now c.in_ok-layers.ensures.layers (omega arith) c.index.ensures;
}
