use Rattle.std.proofs.Common.{◌≡◌, ◌≤◌, ◌-◌, ◌+◌, ◌*◌, map}
use Rattle.text_reading.specs.LineReader.{parts_from}
use Rattle.text_reading.proofs.LineReaders.{with_parts}
use Rattle.code_tables.specs.inside.Reading.{state_at}
use Rattle.code_tables.proofs.table.read_table.Given as goal

-- the states so far and those that are left are all states
abbrev pub invariant-loop-state : goal.invariant-loop-state
invariant-loop-state l =
    (l.line ≤ l.first + 256 * l.state)
    × (with_parts (map (λ rows. rows.items) l.table.items) (parts_from (state_at l.sizes.p l.sizes.q l.sizes.states) (λ state rows. state + 1) l.count (l.sizes.states - l.state) l.state l.line l.rest) ≡ parts_from (state_at l.sizes.p l.sizes.q l.sizes.states) (λ state rows. state + 1) l.count l.sizes.states 0 l.first l.bytes)
