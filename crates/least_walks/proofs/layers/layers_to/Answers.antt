use Rattle.std.proofs.Common.{◌+◌, sym, subst}
use Rattle.least_walks.specs.inside.Layers.{AreLayers}
use Rattle.least_walks.proofs.LayerSteps.{layers_more}
use Rattle.least_walks.proofs.layers.layers_to.Goals as goal

pub loop-left-preserved : goal.loop-left-preserved
loop-left-preserved g c =
    subst (AreLayers (g.G.ImplicitGraph.graph c.args.graph.now) (g.G.PairGraph.words c.args.graph.now) c.args.ahead (c.loop-left.left + 1 + 1))
    (sym c.in_ok-push-2.ensures.items)
    (layers_more (g.G.ImplicitGraph.graph c.args.graph.now) (g.G.PairGraph.words c.args.graph.now) c.args.ahead (c.loop-left.left + 1)
    c.loop-left.layers.items c.in_ok-layer.layer c.loop-left.invariant c.in_ok-layer.ensures.layer)
