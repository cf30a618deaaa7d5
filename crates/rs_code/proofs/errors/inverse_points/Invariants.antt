use Rattle.std.proofs.Common.{◌≡◌, ℕ, ◌<◌, get_or, length}
use Rattle.gf256.specs.Field.{power, alpha, inverse}
use Rattle.gf256.specs.Linear.{values}
use Rattle.rs_code.proofs.errors.inverse_points.Given as goal

abbrev pub invariant-loop-k : goal.invariant-loop-k
invariant-loop-k l = record {
  full : length l.points ≡ 16;
  written : (j : ℕ) → j < l.k → get_or (values l.points) j 0 ≡ inverse (power alpha (get_or l.exponents j 0));
}
