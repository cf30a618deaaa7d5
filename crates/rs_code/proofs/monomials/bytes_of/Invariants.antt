use Rattle.std.proofs.Common.{◌≡◌, take, length}
use Rattle.gf256.specs.Linear.{values}
use Rattle.rs_code.proofs.monomials.bytes_of.Given as goal

abbrev pub invariant-loop-j : goal.invariant-loop-j
invariant-loop-j l = record {
  full : length l.bytes ≡ 16;
  copied : take l.j l.bytes ≡ take l.j (values l.elements);
}
