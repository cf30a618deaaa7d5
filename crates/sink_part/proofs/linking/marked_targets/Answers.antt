use Rattle.std.proofs.Common.{◌≡◌, ◌<◌, List, [], ◌∷◌, ◌++◌, length, map, get_or, take, set, Bool, true, refl, ap, sym, ◌∙◌, subst, arith}
use Rattle.label_graphs.specs.Graph.{EdgeData}
use Rattle.label_graphs.specs.Views.{edge_data}
use Rattle.label_graphs.proofs.Renumbered.{targets_inside}
use Rattle.sink_part.specs.inside.Links.{AreMarkedBy}
use Rattle.sink_part.proofs.LinkRows.{marks_set, marks_left, edges_taken}
use Rattle.sink_part.proofs.linking.marked_targets.Goals.{then-at-gt0, else-at-gt0}
use Rattle.sink_part.proofs.linking.marked_targets.Goals as goal

pub at-requires-in-loop-edge : goal.at-requires-in-loop-edge
at-requires-in-loop-edge c =
    let inside = targets_inside (λ name. name) c.args.graph.now c.at-2.result (length c.args.weights.now) c.row-edge-items.result.now c.row-edge-items.ensures.edges
    c.row-edge-items.ensures.kept (sym c.requires.size) in
    let low = inside c.loop-edge.edge-index c.edge-item.result c.loop-edge-test.true in
    omega (arith, low, c.index-to.ensures.value, ap (λ e. e.to) c.edge-item.is)

pub loop-edge-preserved : goal.loop-edge-preserved
loop-edge-preserved c =
    let edges = c.row-edge-items.result.now in
    let i = c.loop-edge.edge-index in
    let e = c.edge-item.result in
    let weights = c.args.weights.now in
    let n = length c.args.graph.now in
    let row = map (edge_data (λ name. name)) (take i edges) in
    let inside = targets_inside (λ name. name) c.args.graph.now c.at-2.result n edges c.row-edge-items.ensures.edges c.row-edge-items.ensures.kept refl in
    let low : e.to < n = (let low = inside i e c.loop-edge-test.true in omega (arith, low, ap (λ x. x.to) c.edge-item.is)) in
    let weight : c.at-in-loop-edge.result ≡ get_or weights e.to 0 = c.at-in-loop-edge.ensures ∙ ap (λ k. get_or weights k 0) c.index-to.ensures.value in
    subst (λ (es : List EdgeData). AreMarkedBy es weights n c.if-at-gt0.marks.items) (sym (edges_taken edges i e c.loop-edge-test.true c.edge-item.is))
    (elim c.if-at-gt0.branch [
      | then-at-gt0 w ↦
          subst (λ (ms : List Bool). AreMarkedBy (row ++ edge_data (λ name. name) e ∷ []) weights n ms)
          (sym (ap (λ v. v.items) w.marks-is ∙ ap (λ k. set c.loop-edge.marks.items k true) c.index-to.ensures.value))
          (marks_set row (edge_data (λ name. name) e) weights n c.loop-edge.marks.items c.loop-edge.invariant low (omega (arith, w.if-at-gt0.true, weight)))
      | else-at-gt0 w ↦
          subst (λ (ms : List Bool). AreMarkedBy (row ++ edge_data (λ name. name) e ∷ []) weights n ms) (sym (ap (λ v. v.items) w.marks-is))
          (marks_left row (edge_data (λ name. name) e) weights n c.loop-edge.marks.items c.loop-edge.invariant (omega (arith, w.if-at-gt0.false, weight)))
    ])
