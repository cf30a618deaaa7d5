use Rattle.std.proofs.Common.{◌≡◌, ◌*◌, ◌<◌, ◌∷◌, ℕ, take, length, get_or}
use Rattle.std.specs.Prelude.{All}
use Rattle.gf256.specs.Field.{IsElement, times, power, alpha}
use Rattle.gf256.specs.Linear.{values}
use Rattle.rs_code.specs.Polynomial.{value_at}
use Rattle.rs_code.proofs.monomials.Monomials.values.Given as goal

abbrev pub invariant-loop-row : goal.invariant-loop-row
invariant-loop-row l = record {
  full : length l.found ≡ 256;
  elements : All IsElement (get_or (values l.polynomial) 0 0 ∷ values (take l.degree l.terms));
  farther : (x : ℕ) → IsElement x → value_at (get_or (values l.polynomial) 0 0 ∷ values (take l.degree l.terms)) x
      ≡ value_at (values l.polynomial) (times (power alpha (16 * l.row)) x);
  done : (n : ℕ) → n < 16 * l.row → get_or l.found n 0 ≡ value_at (values l.polynomial) (power alpha n);
}
