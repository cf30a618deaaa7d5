use Rattle.std.proofs.Common.{◌≡◌, take}
use Rattle.rs_code.specs.inside.Errors.{weight}
use Rattle.rs_code.proofs.sums.count_errors.Given as goal

abbrev pub invariant-loop-error : goal.invariant-loop-error
invariant-loop-error l = l.count ≡ weight (take l.error-index l.errors)
