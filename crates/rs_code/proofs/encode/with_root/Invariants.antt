use Rattle.std.proofs.Common.{◌≡◌, take, length, get_or, ◌∷◌}
use Rattle.gf256.specs.Linear.{values}
use Rattle.rs_code.specs.Polynomial.{IsBelowDegree}
use Rattle.rs_code.proofs.Encoding.{raised}
use Rattle.rs_code.proofs.encode.with_root.Given as goal

abbrev pub invariant-loop-k : goal.invariant-loop-k
invariant-loop-k l = record {
  full : length l.product ≡ 32;
  above_is : l.above.value ≡ get_or (1 ∷ values l.polynomial) l.k 0;
  zeros : IsBelowDegree l.k (values l.product);
  written : take l.k (values l.product) ≡ take l.k (raised l.degree l.root.value (values l.polynomial));
}
