use Rattle.std.proofs.Common.{◌≡◌, ◌-◌, ◌≤◌, length, take, ◌++◌}
use Rattle.std.specs.Prelude.{option_map}
use Rattle.command_steps.proofs.printing.print_all.Given as goal

abbrev pub invariant-loop-at : goal.invariant-loop-at
invariant-loop-at g l = record {
  within : l.at ≤ length l.bytes;
  text : g.K.TextSink.written l.out ≡ option_map (λ text. text ++ take l.at l.bytes) (g.K.TextSink.written l.initial.out);
  count : g.K.TextSink.faults l.out ≡ g.K.TextSink.faults l.initial.out;
}

abbrev pub decreases-loop-at : goal.decreases-loop-at
decreases-loop-at g l = length l.bytes - l.at
