use Rattle.std.proofs.Common.{◌≡◌, ◌+◌, ◌<◌, ℕ, length, get_or}
use Rattle.gf256.specs.Field.{power, alpha}
use Rattle.gf256.specs.Linear.{values}
use Rattle.rs_code.proofs.monomials.powers_of_step.Given as goal

abbrev pub invariant-loop-place : goal.invariant-loop-place
invariant-loop-place l = record {
  full : length l.steps ≡ 16;
  done : (k : ℕ) → k < l.place → get_or (values l.steps) k 0 ≡ power (power alpha 16) (k + 1);
}
