use Rattle.std.proofs.Common.{take}
use Rattle.constraint_spec.specs.RawStateOf.{is_led}
use Rattle.min_cover.specs.inside.States.{Marks}
use Rattle.min_cover.proofs.raw_states.led_states.Given as goal

abbrev pub invariant-loop-edge : goal.invariant-loop-edge
invariant-loop-edge l = Marks (is_led (take l.edge-index l.edges) l.from l.symbol) l.marks
