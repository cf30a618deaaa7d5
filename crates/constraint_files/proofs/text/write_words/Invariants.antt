use Rattle.std.proofs.Common.{◌≡◌, ◌++◌, drop, map}
use Rattle.std.specs.Prelude.{string_bytes}
use Rattle.code_text_spec.specs.CodeText.{digits, text_of}
use Rattle.constraint_files.proofs.text.write_words.Given as goal

abbrev pub invariant-loop-word : goal.invariant-loop-word
invariant-loop-word l = string_bytes l.text ++ text_of (map digits (drop l.word-index l.words)) ≡ string_bytes l.initial.text ++ text_of (map digits l.words)
