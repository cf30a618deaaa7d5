use Rattle.std.proofs.Common.{◌≡◌, ℕ, ◌+◌, ◌-◌, List, ◌++◌, [], length, sym, subst, arith}
use Rattle.std.proofs.lemmas.List.{append-nil}
use Rattle.least_walks.specs.declared.Arc.{Arc}
use Rattle.least_walks.specs.Graph.{Graph, AreArcsOf}
use Rattle.least_walks.specs.inside.Layers.{IsLeastFrom, HasUnlikeWalk, IsLayer, IsFirstUsable}
use Rattle.least_walks.proofs.Chosen.{best_more, more_begins, least_none}
use Rattle.least_walks.proofs.LayerSteps.{layer_at}
use Rattle.least_walks.proofs.one_length.choose.Goals as goal

pub next_arc-requires-clause-layer : goal.next_arc-requires-clause-layer
next_arc-requires-clause-layer g c =
    let left : ℕ = length c.args.layers.now - 1 - c.loop-done.done in
    layer_at (g.G.ImplicitGraph.graph c.args.graph.now) (g.G.PairGraph.words c.args.graph.now) c.args.ahead (length c.args.layers.now)
    left c.args.layers.now c.index-layers-left.result c.requires.layers (omega arith) c.index-layers-left.is

pub loop-done-preserved : goal.loop-done-preserved
loop-done-preserved g c =
    let graph : Graph = g.G.ImplicitGraph.graph c.args.graph.now in
    let words : ℕ = g.G.PairGraph.words c.args.graph.now in
    let len : ℕ = length c.args.layers.now in
    let left : ℕ = len - 1 - c.loop-done.done in
    let at : ℕ = c.loop-done.at in
    let layer : List ℕ = c.index-layers-left.result in
    let arc : Arc = c.in_ok-arc.arc in
    let arcs : List Arc = c.next_arc.new.room.items in
    let is_layer : IsLayer graph words c.args.ahead left layer =
    layer_at graph words c.args.ahead len left c.args.layers.now layer c.requires.layers (omega arith) c.index-layers-left.is in
    let are : AreArcsOf graph at arcs = c.in_ok-arc.ensures.arcs in
    let first : IsFirstUsable words c.args.ahead left layer arcs arc = c.in_ok-arc.ensures.first in
    let more = more_begins graph words c.args.ahead left at layer arcs arc is_layer are first in
    record {
      inside = omega (arith, more.0);
      begins = λ other sum. subst (λ n. HasUnlikeWalk graph words c.args.ahead n arc.to) (omega (arith, sum)) more.1;
      best =
          λ other sum rest least.
          let same : other ≡ left = omega (arith, sum) in
          subst (λ ls. IsLeastFrom graph words c.args.ahead len c.args.start (ls ++ rest)) (sym c.in_ok-push.ensures.items)
          (best_more graph words c.args.ahead len c.args.start left at c.loop-done.labels.items layer arcs arc is_layer are first
          (c.loop-done.invariant.best (left + 1) (omega arith)) rest
          (subst (λ n. IsLeastFrom graph words c.args.ahead n arc.to rest) same least));
    }

pub returns : goal.returns
returns g c = record {
  least =
      subst
      (IsLeastFrom (g.G.ImplicitGraph.graph c.args.graph.now) (g.G.PairGraph.words c.args.graph.now) c.args.ahead (length c.args.layers.now) c.args.start)
      (append-nil c.loop-done.labels.items)
      (c.loop-done.invariant.best 0 (omega arith) []
      (least_none (g.G.ImplicitGraph.graph c.args.graph.now) (g.G.PairGraph.words c.args.graph.now) c.args.ahead c.loop-done.at));
}
