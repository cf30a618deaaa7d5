use Rattle.std.proofs.Common.{ℕ, ◌-◌, ◌<◌, ◌≤◌}
use Rattle.least_walks.specs.NodeSet.{IsIn}
use Rattle.least_walks.proofs.node_set.NodeSet.first_from.Given as goal

abbrev pub invariant-loop-at : goal.invariant-loop-at
invariant-loop-at l = (l.fn.from ≤ l.at) × ((node : ℕ) → l.fn.from ≤ node → node < l.at → IsIn l.self node → ⊥)

abbrev pub decreases-loop-at : goal.decreases-loop-at
decreases-loop-at l = l.fn.end - l.at
