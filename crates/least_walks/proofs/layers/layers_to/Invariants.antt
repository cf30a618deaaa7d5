use Rattle.std.proofs.Common.{◌+◌}
use Rattle.least_walks.specs.inside.Layers.{AreLayers}
use Rattle.least_walks.proofs.layers.layers_to.Given as goal

abbrev pub invariant-loop-left : goal.invariant-loop-left
invariant-loop-left g l = AreLayers (g.G.ImplicitGraph.graph l.graph) (g.G.PairGraph.words l.graph) l.ahead (l.left + 1) l.layers.items
