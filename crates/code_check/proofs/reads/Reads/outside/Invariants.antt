use Rattle.std.proofs.Common.{◌≡◌, ◌↔◌, ℕ, ◌+◌, ◌%◌, ◌<◌, length}
use Rattle.least_walks.specs.LeastWalk.{IsGoal}
use Rattle.code_check.proofs.reads.Reads.outside.Given as goal

abbrev pub invariant-loop-node : goal.invariant-loop-node
invariant-loop-node l = record {
  count : length l.goals.items ≡ l.node;
  each : (k : ℕ) → k < l.node → IsGoal l.goals.items k ↔ (k % (length l.self.cover + 1) ≡ length l.self.cover);
}
