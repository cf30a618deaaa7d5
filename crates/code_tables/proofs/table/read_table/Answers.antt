use Rattle.std.proofs.Common.{◌+◌, map, arith}
use Rattle.std.proofs.lemmas.Result.{err_from_is_err_and}
use Rattle.std.proofs.lemmas.List.{map_push}
use Rattle.text_reading.specs.LineReader.{parts_from}
use Rattle.text_reading.proofs.LineReaders.{parts_more, parts_wrong, parts_all}
use Rattle.code_tables.specs.inside.Reading.{state_at, table_at}
use Rattle.code_tables.proofs.LoopSteps.{refuses_whole}
use Rattle.code_tables.proofs.table.read_table.Goals as goal

pub returns-in_err-rows : goal.returns-in_err-rows
unfolding table_at
returns-in_err-rows c =
    let p = err_from_is_err_and c.from_residual-in_err-rows.result c.from_residual-in_err-rows.ensures.1 in
    let read = state_at c.args.sizes.now.p c.args.sizes.now.q c.args.sizes.now.states in
    let front = map (λ rows. rows.items) c.loop-state.table.items in
    let total = parts_from read (λ state rows. state + 1) c.words-count.result c.args.sizes.now.states 0 c.args.first c.args.bytes.now in
    rw (p.1, p.2, ← c.words-count.ensures.count) (refuses_whole c.in_err-rows.field-0.0 (read c.loop-state.state c.loop-state.line c.loop-state.rest.now) total c.in_err-rows.ensures
    (λ n wrong. parts_wrong read (λ state rows. state + 1) c.words-count.result front c.args.sizes.now.states c.loop-state.state c.loop-state.state c.loop-state.line c.loop-state.rest.now n total c.loop-state-test.true wrong c.loop-state.invariant.1))

pub loop-state-preserved : goal.loop-state-preserved
loop-state-preserved c =
    let read = state_at c.args.sizes.now.p c.args.sizes.now.q c.args.sizes.now.states in
    let front = map (λ rows. rows.items) c.loop-state.table.items in
    let total = parts_from read (λ state rows. state + 1) c.words-count.result c.args.sizes.now.states 0 c.args.first c.args.bytes.now in
    rw (c.in_ok-push.ensures.items, map_push) (
      omega (arith, c.loop-state.invariant.0, c.words-count.ensures.few),
      parts_more read (λ state rows. state + 1) c.words-count.result front c.args.sizes.now.states c.loop-state.state c.loop-state.state c.loop-state.line c.loop-state.rest.now c.in_ok-rows.rows.items c.in_ok-rows.after.now total c.loop-state-test.true c.in_ok-rows.ensures c.loop-state.invariant.1,
    )

pub returns : goal.returns
unfolding table_at
returns c =
    let read = state_at c.args.sizes.now.p c.args.sizes.now.q c.args.sizes.now.states in
    let total = parts_from read (λ state rows. state + 1) c.words-count.result c.args.sizes.now.states 0 c.args.first c.args.bytes.now in
    let all = parts_all read (λ state rows. state + 1) c.words-count.result (map (λ rows. rows.items) c.loop-state.table.items) c.args.sizes.now.states c.loop-state.state c.loop-state.state c.loop-state.line c.loop-state.rest.now total c.loop-state-test.false c.loop-state.invariant.1 in
    rw (← c.words-count.ensures.count) all
