use Rattle.std.proofs.Common.{◌≡◌, ◌+◌, Ok, Err, ℕ, subst, arith}
use Rattle.text_reading.specs.LineReader.{one_line, parts_from}
use Rattle.text_reading.proofs.LineReaders.{parts_more, parts_wrong, parts_all}
use Rattle.code_tables.specs.inside.Reading.{code_row_at, state_at}
use Rattle.code_tables.specs.inside.ReadLines.{row_of_numbers}
use Rattle.code_tables.proofs.LoopSteps.{line_some, line_none}
use Rattle.code_tables.proofs.table.state_rows.Goals as goal

pub returns-in_default : goal.returns-in_default
unfolding state_at
returns-in_default c =
    let line = code_row_at c.args.sizes.now.q c.args.sizes.now.states c.args.state in
    let read = λ (word : ℕ). one_line (line word) in
    let wrong = parts_wrong read (λ word row. word + 1) 1 c.loop-word.rows.items c.words-count.result c.loop-word.word c.loop-word.word c.loop-word.line c.loop-word.rest.now c.loop-word.line (parts_from read (λ word row. word + 1) 1 c.words-count.result 0 c.args.first c.args.bytes.now)
    c.loop-word-test.true (line_none (line c.loop-word.word) c.loop-word.line c.loop-word.rest.now c.in_default.ensures.read) c.loop-word.invariant.1 in
    subst (λ (n : ℕ). parts_from read (λ word row. word + 1) 1 n 0 c.args.first c.args.bytes.now ≡ Err c.loop-word.line) c.words-count.ensures.count wrong

pub loop-word-preserved : goal.loop-word-preserved
loop-word-preserved c =
    let line = code_row_at c.args.sizes.now.q c.args.sizes.now.states c.args.state in
    let read = λ (word : ℕ). one_line (line word) in
    rw (c.in_ok-push.ensures.items, c.at.ensures.value) (
      omega (arith, c.loop-word.invariant.0),
      parts_more read (λ word row. word + 1) 1 c.loop-word.rows.items c.words-count.result c.loop-word.word c.loop-word.word c.loop-word.line c.loop-word.rest.now (row_of_numbers c.in-Some.value c.in-Some.to) c.in-Some.after.now (parts_from read (λ word row. word + 1) 1 c.words-count.result 0 c.args.first c.args.bytes.now)
          c.loop-word-test.true (line_some (line c.loop-word.word) c.loop-word.line c.loop-word.rest.now (row_of_numbers c.in-Some.value c.in-Some.to, c.in-Some.after.now) c.in-Some.ensures.read) c.loop-word.invariant.1,
    )

pub returns : goal.returns
unfolding state_at
returns c =
    let line = code_row_at c.args.sizes.now.q c.args.sizes.now.states c.args.state in
    let read = λ (word : ℕ). one_line (line word) in
    let all = parts_all read (λ word row. word + 1) 1 c.loop-word.rows.items c.words-count.result c.loop-word.word c.loop-word.word c.loop-word.line c.loop-word.rest.now (parts_from read (λ word row. word + 1) 1 c.words-count.result 0 c.args.first c.args.bytes.now) c.loop-word-test.false c.loop-word.invariant.1 in
    subst (λ (n : ℕ). parts_from read (λ word row. word + 1) 1 n 0 c.args.first c.args.bytes.now ≡ Ok (c.loop-word.rows.items, c.loop-word.rest.now)) c.words-count.ensures.count all
