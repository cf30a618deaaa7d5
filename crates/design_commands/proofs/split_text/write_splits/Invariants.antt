use Rattle.std.proofs.Common.{◌≡◌, ◌+◌, ◌++◌, drop}
use Rattle.std.specs.Prelude.{string_bytes}
use Rattle.code_text_spec.specs.CodeText.{text_of}
use Rattle.design_commands.specs.SplitLines.{split_lines}
use Rattle.design_commands.proofs.split_text.write_splits.Given as goal

abbrev pub invariant-loop-split : goal.invariant-loop-split
invariant-loop-split l =
    (l.part ≡ l.fn.part + l.split-index)
    × (string_bytes l.text ++ text_of (split_lines l.alphabet l.q l.part (drop l.split-index l.splits))
    ≡ string_bytes l.initial.text ++ text_of (split_lines l.alphabet l.q l.fn.part l.splits))
