use Rattle.std.specs.List.{sum}
use Rattle.franaszek.specs.inside.Descent.{AreAbove}
use Rattle.franaszek.proofs.descent.greatest.Given as goal

abbrev pub invariant-loop-state : goal.invariant-loop-state
invariant-loop-state l = AreAbove l.matrix l.n l.bound l.weights.items l.sums.items

abbrev pub decreases-loop-state : goal.decreases-loop-state
decreases-loop-state l = sum l.weights.items
