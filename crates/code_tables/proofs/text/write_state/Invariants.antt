use Rattle.std.proofs.Common.{◌≡◌, ◌++◌, drop}
use Rattle.std.specs.Prelude.{string_bytes}
use Rattle.code_text_spec.specs.CodeText.{state_lines, text_of}
use Rattle.code_tables.proofs.text.write_state.Given as goal

abbrev pub invariant-loop-word : goal.invariant-loop-word
invariant-loop-word l = string_bytes l.text ++ text_of (state_lines l.code l.state l.word (drop l.word l.rows)) ≡ string_bytes l.initial.text ++ text_of (state_lines l.code l.state 0 l.rows)
