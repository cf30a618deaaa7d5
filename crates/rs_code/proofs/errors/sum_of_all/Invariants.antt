use Rattle.std.proofs.Common.{◌≡◌, take}
use Rattle.gf256.specs.Linear.{values}
use Rattle.rs_code.specs.inside.Errors.{sum_of_terms}
use Rattle.rs_code.proofs.errors.sum_of_all.Given as goal

abbrev pub invariant-loop-k : goal.invariant-loop-k
invariant-loop-k l = l.sum.value ≡ sum_of_terms (take l.k (values l.terms))
