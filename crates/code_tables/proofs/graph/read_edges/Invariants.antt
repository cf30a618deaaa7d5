use Rattle.std.proofs.Common.{◌≡◌, ◌-◌, ◌+◌, None, Some}
use Rattle.text_reading.specs.LineReader.{one_line, parts_from}
use Rattle.text_reading.proofs.LineReaders.{with_parts}
use Rattle.code_tables.specs.inside.Reading.{edge_at}
use Rattle.code_tables.proofs.graph.read_edges.Given as goal

-- the edges so far and those that are left are all edges
abbrev pub invariant-loop-place : goal.invariant-loop-place
invariant-loop-place l =
    (l.line ≡ l.first + l.place)
    × (with_parts l.edges.items (parts_from (λ before. one_line (edge_at l.states before)) (λ before edge. Some edge) 1 (l.count - l.place) l.before l.line l.rest) ≡ parts_from (λ before. one_line (edge_at l.states before)) (λ before edge. Some edge) 1 l.count None l.first l.bytes)
