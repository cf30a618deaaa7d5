use Rattle.std.proofs.Common.{◌≡◌, ℕ, ◌<◌, get_or, length}
use Rattle.rs_code.specs.inside.Register.{wide_step, wide_step_behind}
use Rattle.rs_code.proofs.coder.far_rows.Given as goal

abbrev pub invariant-loop-f : goal.invariant-loop-f
invariant-loop-f l = record {
  high_full : length l.far_high ≡ 256;
  low_full : length l.far_low ≡ 256;
  front : (k : ℕ) → k < l.f → get_or l.far_high k 0 ≡ wide_step l.high (get_or l.high k 0) (get_or l.low k 0) 0;
  back : (k : ℕ) → k < l.f → get_or l.far_low k 0 ≡ wide_step_behind l.low (get_or l.high k 0) (get_or l.low k 0) 0;
}
