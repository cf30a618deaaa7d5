use Rattle.std.proofs.Common.{◌≡◌, ◌++◌, drop}
use Rattle.std.specs.Prelude.{string_bytes}
use Rattle.command_steps.specs.FaultLines.{behind_spaces}
use Rattle.command_steps.proofs.lines.write_behind_spaces.Given as goal

abbrev pub invariant-loop-number : goal.invariant-loop-number
invariant-loop-number l = string_bytes l.text ++ behind_spaces (drop l.number-index l.numbers) ≡ string_bytes l.initial.text ++ behind_spaces l.numbers
