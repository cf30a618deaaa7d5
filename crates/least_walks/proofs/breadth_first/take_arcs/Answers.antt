use Rattle.std.proofs.Common.{◌≡◌, ◌<◌, List, length, get_or, refl, ◌∙◌, subst, arith}
use Rattle.least_walks.specs.declared.Arc.{Arc}
use Rattle.least_walks.specs.Graph.{Graph, AreArcsOf, no_arc}
use Rattle.least_walks.specs.inside.Found.{node_at}
use Rattle.least_walks.proofs.Indexing.{node_is}
use Rattle.std.proofs.lemmas.List.{get_or_default}
use Rattle.least_walks.proofs.Steps.{half_taken, half_start, half_end, front_taken}
use Rattle.least_walks.proofs.breadth_first.take_arcs.Goals as goal

pub loop-k-init : goal.loop-k-init
loop-k-init g c =
    let graph : Graph = g.G.ImplicitGraph.graph c.args.graph.now in
    let node : c.index.result.now.node ≡ node_at c.args.found.now.items c.args.at =
    node_is c.args.found.now.items c.args.at c.index.result.now c.requires.at c.index.ensures in
    let are : AreArcsOf graph (node_at c.args.found.now.items c.args.at) c.arcs_of.new.room.items =
    subst (λ v. AreArcsOf graph v c.arcs_of.new.room.items) node c.in_ok-arcs_of.ensures.arcs in
    record {
      sized = c.requires.marks;
      half =
          λ start searched.
          half_start graph start c.arcs_of.new.room.items c.args.found.now.items c.args.marks.now c.args.at searched
          c.requires.at are;
      front = λ i below. (below, refl);
    }

pub loop-k-preserved : goal.loop-k-preserved
loop-k-preserved g c =
    let graph : Graph = g.G.ImplicitGraph.graph c.args.graph.now in
    let arcs : List Arc = c.arcs_of.new.room.items in
    let below : c.loop-k.k < length arcs = omega arith in
    let arc : c.index-in-loop-k.result.now ≡ get_or arcs c.loop-k.k no_arc =
    c.index-in-loop-k.ensures ∙ get_or_default arcs c.loop-k.k c.index-in-loop-k.result.now no_arc below in
    record {
      sized = omega arith;
      half =
          λ start searched.
          half_taken graph start arcs c.loop-k.found.items c.take_arc.new.found.items c.loop-k.marks c.take_arc.new.marks
          c.args.at c.loop-k.k c.index-in-loop-k.result.now (c.loop-k.invariant.half start searched) below arc
          c.in_ok-take_arc.ensures.taken;
      front =
          front_taken c.args.found.now.items c.loop-k.found.items c.take_arc.new.found.items c.loop-k.marks
          c.take_arc.new.marks c.args.at c.index-in-loop-k.result.now c.loop-k.invariant.front
          c.in_ok-take_arc.ensures.taken;
    }

pub returns-clause-searched : goal.returns-clause-searched
returns-clause-searched g c =
    λ start searched.
    half_end (g.G.ImplicitGraph.graph c.args.graph.now) start c.arcs_of.new.room.items c.loop-k.found.items c.loop-k.marks
    c.args.at c.loop-k.k (c.loop-k.invariant.half start searched) (omega arith)
