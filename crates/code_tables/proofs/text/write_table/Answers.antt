use Rattle.std.proofs.Common.{◌≡◌, ◌+◌, ◌++◌, ◌∙◌, List, ap, drop, map, subst}
use Rattle.std.specs.Prelude.{string_bytes}
use Rattle.code_spec.specs.declared.CodeRow.{CodeRow}
use Rattle.code_text_spec.specs.CodeText.{state_lines, table_lines, text_of}
use Rattle.code_tables.proofs.TextLines.{rows_from, next_state}
use Rattle.code_tables.proofs.text.write_table.Goals as goal

pub loop-state-preserved : goal.loop-state-preserved
loop-state-preserved c =
    let now = string_bytes c.loop-state.text in
    let all = string_bytes c.args.text.now ++ text_of (table_lines c.args.code.now 0 (map (λ rows. rows.items) c.args.table.now)) in
    let others = drop (c.loop-state.state + 1) (map (λ rows. rows.items) c.args.table.now) in
    let so_far = subst (λ (rows : List (List CodeRow)). now ++ text_of (table_lines c.args.code.now c.loop-state.state rows) ≡ all)
    (rows_from c.args.table.now c.loop-state.state c.index-table-state.result c.loop-state-test.true c.index-table-state.is) c.loop-state.invariant in
    next_state c.args.code.now now _ all c.loop-state.state c.index-table-state.result.items others so_far
    (c.in_ok-write_state.ensures ∙ ap (λ (rows : List CodeRow). now ++ text_of (state_lines c.args.code.now c.loop-state.state 0 rows)) c.as_slice.ensures.value)
