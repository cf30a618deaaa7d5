use Rattle.std.proofs.Common.{◌≡◌, ◌-◌, ◌*◌, ◌<◌, ℕ, drop, false, get_or}
use Rattle.gf256.specs.Field.{times}
use Rattle.gf256.specs.Linear.{values}
use Rattle.rs_code.specs.Polynomial.{value_at}
use Rattle.rs_code.specs.inside.Errors.{every_other}
use Rattle.rs_code.proofs.errors.odd_parts.Given as goal

abbrev pub invariant-loop-k : goal.invariant-loop-k
invariant-loop-k l = (j : ℕ) → j < 16 → times (get_or (values l.now) j 0) (get_or (values l.points) j 0)
    ≡ value_at (every_other false (drop (2 * (l.terms - l.k)) (values l.polynomial))) (get_or (values l.points) j 0)
