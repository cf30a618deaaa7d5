use Rattle.std.proofs.Common.{◌≡◌, ◌-◌, ◌≤◌, length}
use Rattle.block_codec.specs.inside.Walking.{step_at, AreSteps}
use Rattle.block_codec.proofs.walk.Walk.trace.Given as goal

-- the steps from the place on lead to the state, and those before it are as they were
abbrev pub invariant-loop-at : goal.invariant-loop-at
invariant-loop-at l = record {
  within : l.at ≤ length l.window;
  count : length l.self.steps.items ≡ length l.window;
  leads : (step_at l.self.steps.items l.self.end l.at).state ≡ l.to;
  back : AreSteps l.code l.window l.self.steps.items l.self.end l.at (length l.window);
  front : AreSteps l.code l.window l.self.steps.items l.self.end l.self.start (l.at - 1);
}

abbrev pub decreases-loop-at : goal.decreases-loop-at
decreases-loop-at l = l.at
