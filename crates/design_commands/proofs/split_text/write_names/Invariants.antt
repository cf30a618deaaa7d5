use Rattle.std.proofs.Common.{◌≡◌, ◌++◌, drop}
use Rattle.std.specs.Prelude.{string_bytes}
use Rattle.command_steps.specs.FaultLines.{behind_spaces}
use Rattle.design_commands.proofs.split_text.write_names.Given as goal

abbrev pub invariant-loop-name : goal.invariant-loop-name
invariant-loop-name l = string_bytes l.text ++ behind_spaces (drop l.name-index l.names) ≡ string_bytes l.initial.text ++ behind_spaces l.names
