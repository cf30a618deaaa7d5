use Rattle.std.proofs.Common.{◌≡◌, ◌++◌, take, drop, replicate}
use Rattle.std.specs.Int.{w128, to_be_bytes}
use Rattle.gf256.specs.Linear.{values}
use Rattle.rs_code.proofs.coder.packed.Given as goal

abbrev pub invariant-loop-symbol : goal.invariant-loop-symbol
invariant-loop-symbol l = to_be_bytes w128 l.number ≡ drop l.symbol-index (replicate 16 0 ++ take l.symbol-index (values l.symbols))
