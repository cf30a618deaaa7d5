use Rattle.std.proofs.Common.{[], length, map, get_or, ap, sym, ◌∙◌, arith}
use Rattle.label_graphs.specs.Views.{edge_data, rows_data}
use Rattle.label_graphs.specs.inside.Numbers.{is_marked}
use Rattle.label_graphs.proofs.Renumbered.{row_kept, row_left, rows_are_kept, kept_is_graph, kept_to_end, targets_inside}
use Rattle.label_graphs.proofs.KeptCounts.{no_more_edges}
use Rattle.label_graphs.proofs.kept.keep.Goals.{then-marks-state+in_ok-row+in_ok-push, else-marks-state}
use Rattle.label_graphs.proofs.kept.keep.Goals as goal

pub new_numbers-requires : goal.new_numbers-requires
new_numbers-requires g c = omega (arith, c.requires, c.states-count.ensures.kept.count)

pub kept_edges-requires-clause-inside : goal.kept_edges-requires-clause-inside
kept_edges-requires-clause-inside g c =
    targets_inside (g.N.Name.number) c.args.graph.now (g.N.Name.number c.at.result) (length c.args.marks.now) c.row.result.now c.row.ensures.edges c.row.ensures.kept (sym c.requires)

pub loop-state-preserved : goal.loop-state-preserved
loop-state-preserved g c =
    let number = g.N.Name.number in
    let test = is_marked c.args.marks.now in
    let graph = c.args.graph.now in
    let n = c.loop-state.state in
    elim c.if-marks-state.branch [
      | then-marks-state+in_ok-row+in_ok-push w ↦
          row_kept number test graph n (map (edge_data number) w.row.result.now) c.loop-state.rows.items c.if-marks-state.rows.items w.in_ok-row.row
          w.if-marks-state.true (w.row.ensures.edges ∙ ap (λ k. get_or graph k []) w.at.ensures.again)
          (ap (λ v. v.items) w.rows-is ∙ w.in_ok-push.ensures.items) w.in_ok-row.ensures c.loop-state.invariant
      | else-marks-state w ↦
          ap (λ v. rows_data number v.items) w.rows-is ∙ row_left test graph n (rows_data number c.loop-state.rows.items) w.if-marks-state.false c.loop-state.invariant
    ]

pub from_rows-requires : goal.from_rows-requires
from_rows-requires g c =
    kept_is_graph c.args.graph.now (rows_data (g.N.Name.number) c.loop-state.rows.items) (is_marked c.args.marks.now) c.states-count.ensures.kept
    (kept_to_end c.args.graph.now (rows_data (g.N.Name.number) c.loop-state.rows.items) (is_marked c.args.marks.now) c.loop-state.state c.loop-state.invariant (omega arith))

pub returns-clause-kept : goal.returns-clause-kept
returns-clause-kept g c =
    rows_are_kept c.args.graph.now c.from_rows.result c.args.marks.now c.states-count.ensures.kept c.requires (c.from_rows.ensures
    ∙ kept_to_end c.args.graph.now (rows_data (g.N.Name.number) c.loop-state.rows.items) (is_marked c.args.marks.now) c.loop-state.state c.loop-state.invariant (omega arith))

pub returns-clause-fewer : goal.returns-clause-fewer
returns-clause-fewer g c =
    no_more_edges c.args.graph.now c.from_rows.result (is_marked c.args.marks.now) (c.from_rows.ensures
    ∙ kept_to_end c.args.graph.now (rows_data (g.N.Name.number) c.loop-state.rows.items) (is_marked c.args.marks.now) c.loop-state.state c.loop-state.invariant (omega arith))
