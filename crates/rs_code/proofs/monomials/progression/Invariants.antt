use Rattle.std.proofs.Common.{◌≡◌, ◌<◌, ℕ, length, get_or}
use Rattle.gf256.specs.Field.{times, power}
use Rattle.gf256.specs.Linear.{values}
use Rattle.rs_code.proofs.monomials.progression.Given as goal

abbrev pub invariant-loop-j : goal.invariant-loop-j
invariant-loop-j l = record {
  full : length l.terms ≡ 16;
  done : (k : ℕ) → k < l.j → get_or (values l.terms) k 0 ≡ times l.first.value (power l.ratio.value k);
}
