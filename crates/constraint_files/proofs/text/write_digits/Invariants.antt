use Rattle.std.proofs.Common.{◌≡◌, ◌++◌, drop}
use Rattle.std.specs.Prelude.{string_bytes}
use Rattle.code_text_spec.specs.CodeText.{digits}
use Rattle.constraint_files.proofs.text.write_digits.Given as goal

abbrev pub invariant-loop-symbol : goal.invariant-loop-symbol
invariant-loop-symbol l = string_bytes l.text ++ digits (drop l.symbol-index l.word) ≡ string_bytes l.initial.text ++ digits l.word
