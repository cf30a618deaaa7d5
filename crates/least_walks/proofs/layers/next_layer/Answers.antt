use Rattle.std.proofs.Common.{◌≡◌, ℕ, ◌+◌, ◌-◌, List, sym, subst, arith}
use Rattle.least_walks.specs.declared.pair_graph.Arcs.TheVariants as arcs_are
use Rattle.least_walks.specs.Graph.{Graph}
use Rattle.least_walks.specs.inside.Layers.{IsLayer, IsPreceding}
use Rattle.least_walks.proofs.LayerSteps.{layer_at, layer_next, layer_candidates, layer_again, ok_told, free_arcs}
use Rattle.least_walks.proofs.layers.next_layer.Goals as goal

pub returns-then-left-ahead : goal.returns-then-left-ahead
returns-then-left-ahead g c =
    let graph : Graph = g.G.ImplicitGraph.graph c.args.graph.now in
    let words : ℕ = g.G.PairGraph.words c.args.graph.now in
    let ahead : ℕ = c.args.ahead in
    let left : ℕ = c.args.left in
    let layer : List ℕ = c.index-layers-left.result in
    let candidates : List ℕ = c.index-layers-ahead.result in
    let is_layer : IsLayer graph words ahead left layer =
    layer_at graph words ahead (left + 1) left c.args.layers.now layer c.requires.layers (omega arith) c.index-layers-left.is in
    let are_candidates : IsLayer graph words ahead ahead candidates =
    layer_at graph words ahead (left + 1) ahead c.args.layers.now candidates c.requires.layers (omega arith) c.index-layers-ahead.is in
    record {
      layer =
          ok_told (IsPreceding graph words c.arcs_before.result candidates layer graph.nodes) (IsLayer graph words ahead (left + 1))
          c.preceding.result
          (λ next found.
          layer_next graph words ahead left c.arcs_before.result candidates layer next is_layer (c.arcs_before.ensures.meant words)
          (layer_candidates graph words ahead ahead left candidates (omega arith) (omega arith) are_candidates) found)
          c.preceding.ensures.found;
    }

pub returns-then-is_same : goal.returns-then-is_same
returns-then-is_same g c =
    let graph : Graph = g.G.ImplicitGraph.graph c.args.graph.now in
    let words : ℕ = g.G.PairGraph.words c.args.graph.now in
    let left : ℕ = c.args.left in
    let layer : List ℕ = c.index-layers-left.result in
    let before : List ℕ = c.index-layers-left-then-left-gt0.result in
    let is_layer : IsLayer graph words c.args.ahead left layer =
    layer_at graph words c.args.ahead (left + 1) left c.args.layers.now layer c.requires.layers (omega arith) c.index-layers-left.is in
    let was_layer : IsLayer graph words c.args.ahead (left - 1) before =
    layer_at graph words c.args.ahead (left + 1) (left - 1) c.args.layers.now before c.requires.layers (omega arith)
    c.index-layers-left-then-left-gt0.is in
    let same : layer ≡ before = c.is_same.ensures.same.0 c.if-is_same.true in
    let one : left - 1 + 1 ≡ left = omega arith in
    let two : left - 1 + 2 ≡ left + 1 = omega arith in
    let again : IsLayer graph words c.args.ahead (left + 1) layer =
    subst (λ n. IsLayer graph words c.args.ahead n layer) two
    (layer_again graph words c.args.ahead (left - 1) layer (omega arith) (subst (IsLayer graph words c.args.ahead (left - 1)) (sym same) was_layer)
    (subst (λ n. IsLayer graph words c.args.ahead n layer) (sym one) is_layer)) in
    record {
      layer =
          ok_told (λ (copy : List ℕ). copy ≡ layer) (IsLayer graph words c.args.ahead (left + 1)) c.copy.result
          (λ copy is. subst (IsLayer graph words c.args.ahead (left + 1)) (sym is) again) c.copy.ensures.same;
    }

pub returns : goal.returns
returns g c =
    let graph : Graph = g.G.ImplicitGraph.graph c.args.graph.now in
    let words : ℕ = g.G.PairGraph.words c.args.graph.now in
    let layer : List ℕ = c.index-layers-left.result in
    let is_layer : IsLayer graph words c.args.ahead c.args.left layer =
    layer_at graph words c.args.ahead (c.args.left + 1) c.args.left c.args.layers.now layer c.requires.layers (omega arith) c.index-layers-left.is in
    record {
      layer =
          ok_told (IsPreceding graph words arcs_are.All layer layer graph.nodes) (IsLayer graph words c.args.ahead (c.args.left + 1))
          c.preceding-2.result
          (λ next found.
          layer_next graph words c.args.ahead c.args.left arcs_are.All layer layer next is_layer
          (free_arcs words c.args.ahead c.args.left (omega arith))
          (layer_candidates graph words c.args.ahead c.args.left c.args.left layer (omega arith) (omega arith) is_layer) found)
          c.preceding-2.ensures.found;
    }
