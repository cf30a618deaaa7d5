use Rattle.std.proofs.Common.{◌≡◌, ◌<◌, ◌∷◌, ℕ, take, get_or, length}
use Rattle.gf256.specs.Field.{power, alpha}
use Rattle.gf256.specs.Linear.{values}
use Rattle.rs_code.specs.Polynomial.{value_at}
use Rattle.rs_code.proofs.monomials.Monomials.tabled_values.Given as goal

abbrev pub invariant-loop-k : goal.invariant-loop-k
invariant-loop-k l = record {
  full : length l.sums ≡ 16;
  summed : (j : ℕ) → j < 16 → get_or l.sums j 0 ≡ value_at (l.fn.constant.value ∷ take l.k (values l.terms)) (power alpha j);
}
