use Rattle.std.proofs.Common.{◌≡◌, ℕ, ◌<◌, ◌+◌, ◌-◌, length}
use Rattle.least_walks.specs.LeastWalk.{IsGoal}
use Rattle.least_walks.specs.inside.Found.{Searched, node_at}
use Rattle.least_walks.proofs.breadth_first.least_walk.Given as goal

abbrev pub invariant-loop-at : goal.invariant-loop-at
invariant-loop-at g l = record {
  sized : length l.marks.items ≡ (g.G.ImplicitGraph.graph l.graph).nodes;
  searched : Searched (g.G.ImplicitGraph.graph l.graph) l.start l.found.items l.marks.items l.at;
  begun : 0 < l.at;
  tested : (i : ℕ) → 0 < i → i < l.at → (i < length l.found.items) × (IsGoal l.goals (node_at l.found.items i) → ⊥);
}

abbrev pub decreases-loop-at : goal.decreases-loop-at
decreases-loop-at g l = (g.G.ImplicitGraph.graph l.graph).nodes + 1 - l.at
