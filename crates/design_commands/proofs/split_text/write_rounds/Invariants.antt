use Rattle.std.proofs.Common.{◌≡◌, ◌+◌, ◌++◌, drop}
use Rattle.std.specs.Prelude.{string_bytes}
use Rattle.code_text_spec.specs.CodeText.{text_of}
use Rattle.split_spec.specs.Chain.{split_count}
use Rattle.state_split.specs.Views.{rounds_data}
use Rattle.design_commands.specs.SplitLines.{round_lines}
use Rattle.design_commands.proofs.split_text.write_rounds.Given as goal

abbrev pub invariant-loop-round : goal.invariant-loop-round
invariant-loop-round l =
    (l.number ≡ l.round-index + 1)
    × (split_count (rounds_data (drop l.round-index l.rounds)) + l.part ≡ split_count (rounds_data l.rounds) + l.states)
    × (string_bytes l.text ++ text_of (round_lines l.alphabet l.q l.number l.part (rounds_data (drop l.round-index l.rounds)))
    ≡ string_bytes l.initial.text ++ text_of (round_lines l.alphabet l.q 1 l.states (rounds_data l.rounds)))
