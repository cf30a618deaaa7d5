use Rattle.std.proofs.Common.{◌≡◌, ℕ, ◌*◌, ◌<◌, get_or, length}
use Rattle.gf256.specs.Linear.{values, scaled}
use Rattle.rs_code.specs.inside.Register.{register}
use Rattle.rs_code.proofs.coder.sixteen_multiples.Given as goal

abbrev pub invariant-loop-k : goal.invariant-loop-k
invariant-loop-k l = record {
  high_full : length l.high ≡ 16;
  low_full : length l.low ≡ 16;
  rows : (k : ℕ) → k < l.k → register (get_or l.high k 0) (get_or l.low k 0) ≡ scaled (l.factor * k) (values l.polynomial);
}
