use Rattle.std.proofs.Common.{◌≡◌, ℕ, ◌<◌, get_or, length}
use Rattle.gf256.specs.Field.{times}
use Rattle.gf256.specs.Linear.{values}
use Rattle.rs_code.proofs.lanes.products.Given as goal

abbrev pub invariant-loop-k : goal.invariant-loop-k
invariant-loop-k l = record {
  full : length l.products ≡ 16;
  written : (j : ℕ) → j < l.k → get_or (values l.products) j 0 ≡ times (get_or (values l.terms) j 0) (get_or (values l.factors) j 0);
}
