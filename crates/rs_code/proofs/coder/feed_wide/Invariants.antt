use Rattle.std.proofs.Common.{◌≡◌, ℕ, ◌<◌, ◌≤◌, get_or, length}
use Rattle.rs_code.specs.inside.Register.{wide_step, wide_step_behind}
use Rattle.rs_code.proofs.coder.feed_wide.Given as goal

abbrev pub invariant-loop-v : goal.invariant-loop-v
invariant-loop-v l = record {
  high_full : length l.high ≡ 16;
  low_full : length l.low ≡ 16;
  high_done : (k : ℕ) → k < l.v → get_or l.high k 0 ≡ wide_step l.high_rows (get_or l.initial.high k 0) (get_or l.initial.low k 0) (get_or l.column k 0);
  low_done : (k : ℕ) → k < l.v → get_or l.low k 0 ≡ wide_step_behind l.low_rows (get_or l.initial.high k 0) (get_or l.initial.low k 0) (get_or l.column k 0);
  high_left : (k : ℕ) → l.v ≤ k → get_or l.high k 0 ≡ get_or l.initial.high k 0;
  low_left : (k : ℕ) → l.v ≤ k → get_or l.low k 0 ≡ get_or l.initial.low k 0;
}
