use Rattle.std.proofs.Common.{◌≡◌, ◌-◌, ◌<◌, ℕ, length, get_or}
use Rattle.gf256.specs.Linear.{values}
use Rattle.rs_code.proofs.sums.polynomial_of.Given as goal

abbrev pub invariant-loop-k : goal.invariant-loop-k
invariant-loop-k l = record {
  full : length l.polynomial ≡ 32;
  written : (i : ℕ) → i < l.k → get_or (values l.polynomial) i 0 ≡ get_or l.symbols (length l.symbols - 1 - i) 0;
}
