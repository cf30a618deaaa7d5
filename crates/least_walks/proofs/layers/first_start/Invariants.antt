use Rattle.std.proofs.Common.{ℕ, ◌+◌, ◌<◌}
use Rattle.least_walks.specs.inside.Layers.{HasUnlikeWalk}
use Rattle.least_walks.proofs.layers.first_start.Given as goal

abbrev pub invariant-loop-node : goal.invariant-loop-node
invariant-loop-node g l =
    (v : ℕ) → v < l.node
    → HasUnlikeWalk (g.G.ImplicitGraph.graph l.graph) (g.G.PairGraph.words l.graph) l.ahead (l.last + 1) v → ⊥
