use Rattle.std.proofs.Common.{◌≡◌, ℕ, ◌<◌, ◌≤◌, get_or, length}
use Rattle.rs_code.specs.inside.Register.{narrow_step}
use Rattle.rs_code.proofs.coder.feed_narrow.Given as goal

abbrev pub invariant-loop-v : goal.invariant-loop-v
invariant-loop-v l = record {
  full : length l.rests ≡ 16;
  done : (k : ℕ) → k < l.v → get_or l.rests k 0 ≡ narrow_step l.rows (get_or l.initial.rests k 0) (get_or l.column k 0);
  left : (k : ℕ) → l.v ≤ k → get_or l.rests k 0 ≡ get_or l.initial.rests k 0;
}
