use Rattle.std.proofs.Common.{◌≡◌, ℕ, ◌+◌, List, sym, subst, arith}
use Rattle.std.proofs.lemmas.Bool.{both_ways}
use Rattle.least_walks.specs.Graph.{Graph}
use Rattle.least_walks.specs.PairGraph.{LeadsInto}
use Rattle.least_walks.specs.inside.Layers.{IsPreceding}
use Rattle.least_walks.proofs.LayerSteps.{found_more, found_past}
use Rattle.least_walks.proofs.layers.preceding.Goals.{then-leads_into, else-leads_into}
use Rattle.least_walks.proofs.layers.preceding.Goals as goal

pub loop-node-preserved : goal.loop-node-preserved
loop-node-preserved g c =
    let graph : Graph = g.G.ImplicitGraph.graph c.args.graph.now in
    let words : ℕ = g.G.PairGraph.words c.args.graph.now in
    let node : ℕ = c.loop-node.node in
    let candidates : List ℕ = c.args.candidates.now in
    let layer : List ℕ = c.args.layer.now in
    let Found : List ℕ → Type 0 = λ found. IsPreceding graph words c.args.arcs candidates layer (node + 1) found in
    let done : IsPreceding graph words c.args.arcs candidates layer (node + 1) c.if-leads_into.found =
    elim c.if-leads_into.branch [
      | then-leads_into w ↦
          (subst Found (sym w.found-is)
          (subst Found (sym w.insert.ensures.more)
          (found_more graph words c.args.arcs candidates layer node c.loop-node.found (omega arith) c.loop-node.invariant
          (c.leads_into.ensures.leads.0 w.if-leads_into.true))))
      | else-leads_into w ↦
          (subst Found (sym w.found-is)
          (found_past graph words c.args.arcs candidates layer node (node + 1) c.loop-node.found c.loop-node.invariant
          (λ v least most candidate into.
          let is : v ≡ node = omega (arith, least, most) in
          both_ways c.leads_into.result w.if-leads_into.false
          (c.leads_into.ensures.leads.1 (subst (λ v. LeadsInto graph words c.args.arcs v layer) is into)))))
    ] in
    found_past graph words c.args.arcs candidates layer (node + 1) c.first_from-node-in-loop-node.result c.if-leads_into.found done
    (λ v behind less candidate into. c.first_from-node-in-loop-node.ensures.skipped v behind less candidate)

pub returns : goal.returns
returns g c =
    let graph : Graph = g.G.ImplicitGraph.graph c.args.graph.now in
    let words : ℕ = g.G.PairGraph.words c.args.graph.now in
    record {
      found =
          found_past graph words c.args.arcs c.args.candidates.now c.args.layer.now c.loop-node.node graph.nodes c.loop-node.found
          c.loop-node.invariant (λ v behind less candidate into. omega (arith, behind, less));
    }
