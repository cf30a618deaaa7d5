use Rattle.std.proofs.Common.{ℕ, ◌<◌, get_or}
use Rattle.least_walks.specs.Graph.{no_arc}
use Rattle.least_walks.specs.inside.Layers.{IsUsable}
use Rattle.least_walks.proofs.one_length.first_arc.Given as goal

abbrev pub invariant-loop-k : goal.invariant-loop-k
invariant-loop-k l = (m : ℕ) → m < l.k → IsUsable l.words l.ahead l.left l.layer (get_or l.arcs m no_arc) → ⊥
