use Rattle.std.proofs.Common.{◌≡◌, ℕ, ◌<◌, ◌≤◌, ◌-◌, get_or, length}
use Rattle.gf256.specs.Linear.{values}
use Rattle.rs_code.proofs.errors.turned.Given as goal

abbrev pub invariant-loop-k : goal.invariant-loop-k
invariant-loop-k l = record {
  full : length l.turned ≡ 17;
  written : (j : ℕ) → j < l.k → get_or (values l.turned) j 0 ≡ get_or (values l.polynomial) (l.last - j) 0;
  left : (j : ℕ) → l.k ≤ j → get_or (values l.turned) j 0 ≡ 0;
}
