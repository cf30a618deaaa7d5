use Rattle.std.proofs.Common.{◌≡◌, take, length}
use Rattle.gf256.specs.Linear.{values, scaled}
use Rattle.rs_code.proofs.coder.multiple.Given as goal

abbrev pub invariant-loop-k : goal.invariant-loop-k
invariant-loop-k l = record {
  full : length l.multiple ≡ 32;
  written : take l.k (values l.multiple) ≡ take l.k (scaled l.factor.value (values l.polynomial));
}
