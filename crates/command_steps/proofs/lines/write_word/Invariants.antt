use Rattle.std.proofs.Common.{◌≡◌, ◌++◌, drop}
use Rattle.std.specs.Prelude.{string_bytes}
use Rattle.command_steps.specs.FaultLines.{word_text}
use Rattle.command_steps.proofs.lines.write_word.Given as goal

abbrev pub invariant-loop-symbol : goal.invariant-loop-symbol
invariant-loop-symbol l = string_bytes l.text ++ word_text (drop l.symbol-index l.word) ≡ string_bytes l.initial.text ++ word_text l.word
