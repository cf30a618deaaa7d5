use Rattle.std.proofs.Common.{ℕ, List, ◌<◌, ◌≤◌}
use Rattle.rs_code.specs.inside.Division.{CanDivide, AreInARow}
use Rattle.rs_code.proofs.Division.{IsPartial}
use Rattle.rs_code.proofs.key_equation.divide.Given as goal

abbrev pub invariant-loop-rest : goal.invariant-loop-rest
invariant-loop-rest l = record {
  can : CanDivide l.rest l.here;
  at_most : l.rest.length ≤ l.initial.rest.length;
  partial : (t : ℕ) (sums : List ℕ) → t ≤ 16 → t < l.here.length → AreInARow t sums l.initial.rest l.here → IsPartial t sums l.initial.rest l.here l.rest;
}

abbrev pub decreases-loop-rest : goal.decreases-loop-rest
decreases-loop-rest l = l.rest.length
