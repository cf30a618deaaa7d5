use Rattle.std.proofs.Common.{List, ℕ, [], ◌∷◌, ◌++◌, append_assoc, ap, ◌∙◌, arith}
use Rattle.std.specs.Prelude.{codes, string_bytes}
use Rattle.std.specs.Fmt.{decimal}
use Rattle.code_text_spec.specs.CodeText.{spaced}
use Rattle.text_reading.specs.Lines.{text_of}
use Rattle.command_steps.specs.FaultLines.{behind_spaces}
use Rattle.design_commands.specs.Explain.{cover_lines}
use Rattle.design_commands.proofs.ExplainLaws.{three_lines, two_lines}
use Rattle.design_commands.proofs.explain_text.begun_text.Goals as goal

pub returns : goal.returns
returns c =
    let design = c.args.design.now in
    let lines = cover_lines design.cover.graph in
    let memory = spaced (codes "memory") (decimal design.memory) in
    let power = spaced (codes "power") (decimal c.count_edges-edges.result) in
    let bound = spaced (codes "bound") (decimal design.bound) in
    let sizes = three_lines lines memory power bound (codes "weights") (string_bytes c.in_ok-text.text) (string_bytes c.write.new.self) c.in_ok-text.ensures c.in_ok-write.ensures.bytes in
    let whole = two_lines (lines ++ memory ∷ power ∷ bound ∷ []) (codes "weights") (codes "sink") (behind_spaces design.weights) (behind_spaces design.chain.sink.parents)
    (string_bytes c.write.new.self) (string_bytes c.write_weights.new.text) (string_bytes c.push_str.new.self) (string_bytes c.write_parents.new.text) (string_bytes c.push.new.self)
    sizes c.in_ok-write_weights.ensures c.in_ok-push_str.ensures.bytes c.in_ok-write_parents.ensures
    (c.in_ok-push.ensures.bytes ∙ ap (λ (t : List ℕ). string_bytes c.write_parents.new.text ++ t) (c.in_ok-push.ensures.ascii (omega arith))) in
    whole ∙ ap (λ (ls : List (List ℕ)). text_of ls) (append_assoc lines (memory ∷ power ∷ bound ∷ []) ((codes "weights" ++ behind_spaces design.weights) ∷ (codes "sink" ++ behind_spaces design.chain.sink.parents) ∷ []))
    ∙ ap (λ n. text_of (lines ++ memory ∷ spaced (codes "power") (decimal n) ∷ bound ∷ (codes "weights" ++ behind_spaces design.weights) ∷ (codes "sink" ++ behind_spaces design.chain.sink.parents) ∷ [])) c.count_edges-edges.ensures
