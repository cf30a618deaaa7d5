use Rattle.std.proofs.Common.{◌≡◌, ◌++◌, drop}
use Rattle.std.specs.Prelude.{string_bytes}
use Rattle.code_text_spec.specs.CodeText.{text_of}
use Rattle.design_commands.specs.Explain.{edge_lines, cover_lines}
use Rattle.design_commands.proofs.explain_text.cover_text.Given as goal

abbrev pub invariant-loop-state : goal.invariant-loop-state
invariant-loop-state l =
    string_bytes l.text ++ text_of (edge_lines l.state (drop l.state l.cover.graph)) ≡ text_of (cover_lines l.cover.graph)
