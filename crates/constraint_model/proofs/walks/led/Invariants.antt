use Rattle.std.proofs.Common.{take}
use Rattle.constraint_model.specs.inside.StateSet.{AreLed}
use Rattle.constraint_model.proofs.walks.led.Given as goal

abbrev pub invariant-loop-edge : goal.invariant-loop-edge
invariant-loop-edge l = AreLed (take l.edge-index l.edges) l.from l.label l.to
