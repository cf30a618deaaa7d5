use Rattle.std.proofs.Common.{◌≡◌, ◌*◌, ◌/◌, ◌%◌, ◌<◌, ℕ, length, get_or}
use Rattle.gf256.specs.Field.{times, power}
use Rattle.rs_code.proofs.monomials.table_rows.Given as goal

abbrev pub invariant-loop-h : goal.invariant-loop-h
invariant-loop-h l = record {
  full : length l.rows ≡ 256;
  done : (n : ℕ) → n < 16 * l.h → get_or l.rows n 0 ≡ times (l.factor * (n / 16)) (power l.fn.ratio.value (n % 16));
}
