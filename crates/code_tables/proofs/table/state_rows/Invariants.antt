use Rattle.std.proofs.Common.{◌≡◌, ◌-◌, ◌+◌}
use Rattle.text_reading.specs.LineReader.{one_line, parts_from}
use Rattle.text_reading.proofs.LineReaders.{with_parts}
use Rattle.code_tables.specs.inside.Reading.{code_row_at}
use Rattle.code_tables.proofs.table.state_rows.Given as goal

-- the rows so far and those that are left are all rows of the state
abbrev pub invariant-loop-word : goal.invariant-loop-word
invariant-loop-word l =
    (l.line ≡ l.first + l.word)
    × (with_parts l.rows.items (parts_from (λ word. one_line (code_row_at l.sizes.q l.sizes.states l.state word)) (λ word row. word + 1) 1 (l.count - l.word) l.word l.line l.rest) ≡ parts_from (λ word. one_line (code_row_at l.sizes.q l.sizes.states l.state word)) (λ word row. word + 1) 1 l.count 0 l.first l.bytes)
