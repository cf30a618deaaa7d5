use Rattle.std.proofs.Common.{◌≡◌, ℕ, ◌<◌, get_or, [], length}
use Rattle.rs_code.specs.inside.Register.{register}
use Rattle.rs_code.proofs.coder.all_symbols.Given as goal

abbrev pub invariant-loop-v : goal.invariant-loop-v
invariant-loop-v l = record {
  full : length l.symbols ≡ 16;
  done : (k : ℕ) → k < l.v → get_or l.symbols k [] ≡ register (get_or l.high k 0) (get_or l.low k 0);
}
