use Rattle.std.proofs.Common.{◌≡◌, ◌-◌, ◌<◌, ℕ, drop, get_or, length}
use Rattle.gf256.specs.Linear.{values}
use Rattle.rs_code.specs.Polynomial.{value_at}
use Rattle.rs_code.proofs.lanes.values_at.Given as goal

abbrev pub invariant-loop-k : goal.invariant-loop-k
invariant-loop-k l = (j : ℕ) → j < 16
    → get_or (values l.now) j 0 ≡ value_at (drop (length l.polynomial - l.k) (values l.polynomial)) (get_or (values l.points) j 0)
