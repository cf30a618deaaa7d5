use Rattle.std.proofs.Common.{◌≡◌, ◌++◌, drop}
use Rattle.std.specs.Prelude.{string_bytes}
use Rattle.command_steps.specs.FaultLines.{behind_spaces}
use Rattle.design_commands.proofs.explain_text.write_parents.Given as goal

abbrev pub invariant-loop-state : goal.invariant-loop-state
invariant-loop-state l = string_bytes l.text ++ behind_spaces (drop l.state l.parents) ≡ string_bytes l.initial.text ++ behind_spaces l.parents
