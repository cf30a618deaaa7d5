use Rattle.std.proofs.Common.{◌≡◌, ℕ, ◌<◌, ◌++◌, ◌-◌, take, replicate, get_or}
use Rattle.gf256.specs.Field.{IsElement}
use Rattle.gf256.specs.Linear.{values}
use Rattle.rs_code.proofs.key_equation.sums_below.Given as goal

abbrev pub invariant-loop-i : goal.invariant-loop-i
invariant-loop-i l = record {
  copied : values l.coefficients ≡ take l.i (values l.sums) ++ replicate (48 - l.i) 0;
  elements : (k : ℕ) → k < l.i → IsElement (get_or (values l.sums) k 0);
}
