use Rattle.std.proofs.Common.{◌≡◌, ℕ, ◌<◌, get_or, length}
use Rattle.gf256.specs.Linear.{values, scaled}
use Rattle.rs_code.specs.inside.Register.{register}
use Rattle.rs_code.proofs.coder.multiples.Given as goal

abbrev pub invariant-loop-f : goal.invariant-loop-f
invariant-loop-f l = record {
  high_full : length l.high ≡ 256;
  low_full : length l.low ≡ 256;
  rows : (k : ℕ) → k < l.f → register (get_or l.high k 0) (get_or l.low k 0) ≡ scaled k (values l.polynomial);
}
