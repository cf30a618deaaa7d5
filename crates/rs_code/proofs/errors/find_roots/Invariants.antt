use Rattle.std.proofs.Common.{◌≡◌, take, length}
use Rattle.gf256.specs.Linear.{values}
use Rattle.rs_code.specs.inside.Errors.{root_exponents}
use Rattle.rs_code.proofs.errors.find_roots.Given as goal

abbrev pub invariant-loop-n : goal.invariant-loop-n
invariant-loop-n l = record {
  full : length l.exponents ≡ 17;
  counted : l.count ≡ length (root_exponents (values l.polynomial) l.n);
  found : take l.count l.exponents ≡ root_exponents (values l.polynomial) l.n;
}
