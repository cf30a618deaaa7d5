use Rattle.std.proofs.Common.{◌≡◌, ◌≢◌, ℕ, ◌<◌, ◌≤◌, get_or, length}
use Rattle.std.specs.Prelude.{All}
use Rattle.gf256.specs.Field.{IsElement, times, inverse}
use Rattle.gf256.specs.Linear.{values}
use Rattle.rs_code.proofs.errors.quotients.Given as goal

abbrev pub invariant-loop-k : goal.invariant-loop-k
invariant-loop-k l = record {
  full : length l.quotients ≡ 16;
  elements : All IsElement (values l.quotients);
  behind : (j : ℕ) → l.k ≤ j → get_or (values l.quotients) j 0 ≡ 0;
  written : (j : ℕ) → j < l.k → get_or (values l.divisors) j 0 ≢ 0
      → get_or (values l.quotients) j 0 ≡ times (get_or (values l.dividends) j 0) (inverse (get_or (values l.divisors) j 0));
}
