use Rattle.std.proofs.Common.{◌≡◌, ◌-◌, ◌+◌, None, Some}
use Rattle.text_reading.specs.LineReader.{one_line, parts_from, after_all}
use Rattle.text_reading.proofs.LineReaders.{with_parts}
use Rattle.code_tables.specs.inside.Reading.{forbidden_at}
use Rattle.code_tables.proofs.forbidden.read_words.Given as goal

-- the words so far and those that are left are all words
abbrev pub invariant-loop-place : goal.invariant-loop-place
invariant-loop-place l =
    (l.line ≡ l.first + l.place)
    × (with_parts l.words.items (parts_from (λ before. one_line (forbidden_at before)) (λ before word. Some word) 1 (l.count - l.place) (after_all (λ before word. Some word) None l.words.items) l.line l.rest) ≡ parts_from (λ before. one_line (forbidden_at before)) (λ before word. Some word) 1 l.count None l.first l.bytes)
