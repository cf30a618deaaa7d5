use Rattle.std.proofs.Common.{◌≡◌, ◌++◌, drop, map}
use Rattle.std.specs.Prelude.{string_bytes}
use Rattle.code_text_spec.specs.CodeText.{text_of}
use Rattle.label_graphs.specs.Views.{edge_data}
use Rattle.design_commands.specs.Explain.{edge_line}
use Rattle.design_commands.proofs.explain_text.write_row.Given as goal

abbrev pub invariant-loop-edge : goal.invariant-loop-edge
invariant-loop-edge l =
    string_bytes l.text ++ text_of (map (edge_line l.state) (map (edge_data (λ name. name)) (drop l.edge-index l.row)))
    ≡ string_bytes l.initial.text ++ text_of (map (edge_line l.state) (map (edge_data (λ name. name)) l.row))
