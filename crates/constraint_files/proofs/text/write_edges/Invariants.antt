use Rattle.std.proofs.Common.{◌≡◌, ◌++◌, drop, map}
use Rattle.std.specs.Prelude.{string_bytes}
use Rattle.code_text_spec.specs.CodeText.{edge_line, text_of}
use Rattle.constraint_files.proofs.text.write_edges.Given as goal

abbrev pub invariant-loop-edge : goal.invariant-loop-edge
invariant-loop-edge l = string_bytes l.text ++ text_of (map edge_line (drop l.edge-index l.edges)) ≡ string_bytes l.initial.text ++ text_of (map edge_line l.edges)
