use Rattle.std.proofs.Common.{◌-◌}
use Rattle.least_walks.specs.inside.Layers.{IsPreceding}
use Rattle.least_walks.proofs.layers.preceding.Given as goal

abbrev pub invariant-loop-node : goal.invariant-loop-node
invariant-loop-node g l =
    IsPreceding (g.G.ImplicitGraph.graph l.graph) (g.G.PairGraph.words l.graph) l.arcs l.candidates l.layer l.node l.found

abbrev pub decreases-loop-node : goal.decreases-loop-node
decreases-loop-node g l = l.count - l.node
