use Rattle.std.proofs.Common.{◌≡◌, ◌+◌, ◌<◌, ◌≤◌, length, ℕ, get_or}
use Rattle.block_codec.specs.inside.Walking.{end_step}
use Rattle.block_codec.proofs.walk.Walk.move_on.Given as goal

abbrev pub invariant-loop-i : goal.invariant-loop-i
invariant-loop-i l = record {
  count : length l.self.steps.items ≡ length l.fn.self.steps.items;
  start : l.self.start ≡ l.fn.self.start;
  end : l.self.end ≡ l.fn.self.end;
  moved : (k : ℕ) → k < l.i → get_or l.self.steps.items k (end_step 0) ≡ get_or l.fn.self.steps.items (k + 1) (end_step 0);
  rest : (k : ℕ) → l.i ≤ k → get_or l.self.steps.items k (end_step 0) ≡ get_or l.fn.self.steps.items k (end_step 0);
}
