use Rattle.std.proofs.Common.{ap, refl, List, ℕ, sym, subst, map, take, ◌+◌}
use Rattle.std.specs.Prelude.{slice_index}
use Rattle.label_graphs.specs.declared.graph.Edge.{Edge}
use Rattle.label_graphs.specs.Views.{edge_data}
use Rattle.min_cover.specs.inside.Rows.{AreEdges}
use Rattle.min_cover.proofs.GraphRows.{edges_step_some, edges_step_none}
use Rattle.min_cover.proofs.rows.edges_of_row.Goals.{in-Some+in_ok-push-in-Some, in-None}
use Rattle.min_cover.proofs.rows.edges_of_row.Goals as goal

pub loop-symbol-preserved : goal.loop-symbol-preserved
loop-symbol-preserved c =
    let classes = c.args.classes.now in
    let row = c.args.row.now in
    let s = c.loop-symbol.symbol in
    let edges = c.loop-symbol.edges.items in
    let P = λ (es : List (Edge ℕ)). AreEdges (slice_index classes) (take (s + 1) row) (map (edge_data (λ (name : ℕ). name)) es) in
    elim c.match-row-symbol.branch [
      | in-Some+in_ok-push-in-Some w ↦ subst P (sym (ap (λ v. v.items) w.edges-is))
          (edges_step_some classes row s w.in-Some.state edges _ _ w.in_ok-push-in-Some.ensures.items c.loop-symbol-test.true w.in-Some.is refl w.at.ensures.value c.loop-symbol.invariant)
      | in-None w ↦ subst P (sym (ap (λ v. v.items) w.edges-is))
          (edges_step_none classes row s (map (edge_data (λ (name : ℕ). name)) edges) c.loop-symbol-test.true w.in-None.is c.loop-symbol.invariant)
    ]
