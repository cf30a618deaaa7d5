use Rattle.std.proofs.Common.{◌≡◌, ◌++◌, drop, map}
use Rattle.std.specs.Prelude.{string_bytes}
use Rattle.code_text_spec.specs.CodeText.{table_lines, text_of}
use Rattle.code_tables.proofs.text.write_table.Given as goal

abbrev pub invariant-loop-state : goal.invariant-loop-state
invariant-loop-state l =
    string_bytes l.text ++ text_of (table_lines l.code l.state (drop l.state (map (λ rows. rows.items) l.table)))
    ≡ string_bytes l.initial.text ++ text_of (table_lines l.code 0 (map (λ rows. rows.items) l.table))
