use Rattle.std.proofs.Common.{◌≡◌, ℕ, List, ◌<◌, ◌≤◌, get_or, take, length}
use Rattle.rs_code.specs.Interleave.{interleave}
use Rattle.rs_code.specs.inside.Register.{AreRows, IsRest, register}
use Rattle.rs_code.proofs.coder.narrow_rests.Given as goal

abbrev pub invariant-loop-s : goal.invariant-loop-s
invariant-loop-s l = record {
  full : length l.rests ≡ 16;
  rests : (t : ℕ) (low : List ℕ) → t ≤ 8 → AreRows t l.rows low → (v : ℕ) → v < l.many
      → IsRest t (take l.s (interleave l.many v l.symbols)) (register (get_or l.rests v 0) 0);
}
