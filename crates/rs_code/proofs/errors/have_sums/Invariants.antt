use Rattle.std.proofs.Common.{◌≡◌, ℕ, ◌<◌, ◌≤◌, get_or, length}
use Rattle.gf256.specs.Field.{times, power, alpha}
use Rattle.gf256.specs.Linear.{values}
use Rattle.rs_code.specs.inside.Errors.{moment, powers}
use Rattle.rs_code.proofs.errors.have_sums.Given as goal

abbrev pub invariant-loop-i : goal.invariant-loop-i
invariant-loop-i l = record {
  full : length l.terms ≡ 16;
  terms : (k : ℕ) → k < length l.exponents
      → get_or (values l.terms) k 0 ≡ times (get_or (values l.error_values) k 0) (power (power alpha (get_or l.exponents k 0)) l.i);
  behind : (k : ℕ) → length l.exponents ≤ k → get_or (values l.terms) k 0 ≡ 0;
  right : (k : ℕ) → k < l.i → moment (values l.error_values) (powers l.exponents) k ≡ get_or (values l.sums) k 0;
}
