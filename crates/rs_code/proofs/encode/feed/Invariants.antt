use Rattle.std.proofs.Common.{◌≡◌, take, drop}
use Rattle.gf256.specs.Linear.{values}
use Rattle.rs_code.proofs.Encoding.{fed}
use Rattle.rs_code.proofs.encode.feed.Given as goal

abbrev pub invariant-loop-k : goal.invariant-loop-k
invariant-loop-k l = record {
  written : take l.k l.register ≡ take l.k (fed l.factor.value (values l.generator) l.initial.register);
  left : drop l.k l.register ≡ drop l.k l.initial.register;
}
