use Rattle.std.proofs.Common.{◌≡◌, ℕ, ◌<◌, get_or, take, length}
use Rattle.rs_code.specs.Interleave.{interleave}
use Rattle.rs_code.specs.inside.Register.{AreRows, IsRest, register}
use Rattle.rs_code.proofs.coder.wide_rests.Given as goal

abbrev pub invariant-loop-s : goal.invariant-loop-s
invariant-loop-s l = record {
  high_full : length l.high ≡ 16;
  low_full : length l.low ≡ 16;
  rests : (t : ℕ) → AreRows t l.high_rows l.low_rows → (v : ℕ) → v < l.many
      → IsRest t (take l.s (interleave l.many v l.symbols)) (register (get_or l.high v 0) (get_or l.low v 0));
}
