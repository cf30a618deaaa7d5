use Rattle.std.proofs.Common.{get_or, sym, subst, arith}
use Rattle.least_walks.specs.Graph.{Graph, AreArcsOf, no_arc}
use Rattle.least_walks.specs.inside.Layers.{IsUsable}
use Rattle.least_walks.proofs.Chosen.{no_first}
use Rattle.least_walks.proofs.one_length.next_arc.Goals as goal

pub first_arc-requires-clause-inside : goal.first_arc-requires-clause-inside
first_arc-requires-clause-inside g c =
    let graph : Graph = g.G.ImplicitGraph.graph c.args.graph.now in
    let are : AreArcsOf graph c.args.at c.deref.result.now =
    subst (λ arcs. AreArcsOf graph c.args.at arcs) (sym c.deref.ensures.value) c.in_ok-arcs_of.ensures.arcs in
    λ k below. let inside = are.inside k below in omega (arith, inside, c.requires.layer.room)

pub unreachable-requires : goal.unreachable-requires
unreachable-requires g c =
    let graph : Graph = g.G.ImplicitGraph.graph c.args.graph.now in
    let are : AreArcsOf graph c.args.at c.deref.result.now =
    subst (λ arcs. AreArcsOf graph c.args.at arcs) (sym c.deref.ensures.value) c.in_ok-arcs_of.ensures.arcs in
    no_first graph (g.G.PairGraph.words c.args.graph.now) c.args.ahead c.args.left c.args.at c.args.layer.now c.deref.result.now c.requires.begins.0
    c.requires.layer are
    (λ m below usable.
    c.in-None.ensures.none m below
    (subst (λ n. IsUsable n c.args.ahead c.args.left c.args.layer.now (get_or c.deref.result.now m no_arc)) (sym c.word_count.ensures.count) usable))
    c.requires.begins.1 c.requires.begins.2
