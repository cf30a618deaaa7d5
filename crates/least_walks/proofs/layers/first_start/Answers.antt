use Rattle.std.proofs.Common.{◌≡◌, true, below_more, arith}
use Rattle.least_walks.proofs.LayerSteps.{none_before, leads_walk, walk_leads}
use Rattle.least_walks.proofs.layers.first_start.Goals as goal

pub returns-then-is_empty-clause-none : goal.returns-then-is_empty-clause-none
returns-then-is_empty-clause-none g c =
    λ v below walk.
    none_before (g.G.ImplicitGraph.graph c.args.graph.now) (g.G.PairGraph.words c.args.graph.now) c.args.ahead c.args.last v
    c.args.layer.now walk.0 c.requires.layer (c.is_empty.ensures.none.0 c.if-is_empty.true) walk.1 walk.2

pub returns-then-leads_into-clause-walk : goal.returns-then-leads_into-clause-walk
returns-then-leads_into-clause-walk g c =
    leads_walk (g.G.ImplicitGraph.graph c.args.graph.now) (g.G.PairGraph.words c.args.graph.now) c.args.ahead c.args.last
    c.loop-node.node c.arcs_before-arcs.result c.args.layer.now c.requires.layer
    (c.arcs_before-arcs.ensures.meant (g.G.PairGraph.words c.args.graph.now)) (c.leads_into.ensures.leads.0 c.if-leads_into.true)

pub loop-node-preserved : goal.loop-node-preserved
loop-node-preserved g c =
    below_more _ _ c.loop-node.invariant
    (λ walk.
    let leads : c.leads_into.result ≡ true =
    c.leads_into.ensures.leads.1
    (walk_leads (g.G.ImplicitGraph.graph c.args.graph.now) (g.G.PairGraph.words c.args.graph.now) c.args.ahead c.args.last
    c.loop-node.node c.arcs_before-arcs.result c.args.layer.now walk.0 c.requires.layer
    (c.arcs_before-arcs.ensures.meant (g.G.PairGraph.words c.args.graph.now)) walk.1 walk.2) in
    absurd (let unlike = c.if-leads_into.false in cc))

pub returns-clause-none : goal.returns-clause-none
returns-clause-none g c = λ v below walk. c.loop-node.invariant v (omega (arith, below)) walk
