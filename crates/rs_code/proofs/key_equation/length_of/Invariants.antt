use Rattle.std.proofs.Common.{◌≤◌}
use Rattle.gf256.specs.Linear.{values}
use Rattle.rs_code.specs.Polynomial.{IsBelowDegree}
use Rattle.rs_code.proofs.key_equation.length_of.Given as goal

abbrev pub invariant-loop-length : goal.invariant-loop-length
invariant-loop-length l = record { within : l.length ≤ l.most; degree : IsBelowDegree l.length (values l.coefficients) }

abbrev pub decreases-loop-length : goal.decreases-loop-length
decreases-loop-length l = l.length
