use Rattle.std.proofs.Common.{◌≡◌, ◌+◌, ◌*◌, ◌/◌, ◌%◌, ◌<◌, ℕ, length, get_or}
use Rattle.gf256.specs.Field.{times, power, alpha}
use Rattle.rs_code.proofs.monomials.table.Given as goal

abbrev pub invariant-loop-place : goal.invariant-loop-place
invariant-loop-place l = record {
  full : length l.table ≡ 4096;
  done : (n : ℕ) → n < 256 * l.place → get_or l.table n 0 ≡ times (l.factor * (n % 256 / 16)) (power (power alpha (n % 16)) (n / 256 + 1));
}
