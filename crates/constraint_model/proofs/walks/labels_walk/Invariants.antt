use Rattle.std.proofs.Common.{take}
use Rattle.constraint_model.specs.inside.StateSet.{AreEnds}
use Rattle.constraint_model.proofs.walks.labels_walk.Given as goal

abbrev pub invariant-loop-symbol : goal.invariant-loop-symbol
invariant-loop-symbol l = AreEnds l.edges (take l.symbol-index l.word) l.ends
