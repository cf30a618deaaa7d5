use Rattle.std.proofs.Common.{◌≡◌, ℕ, ◌<◌, get_or, length}
use Rattle.gf256.specs.Field.{plus, times}
use Rattle.gf256.specs.Linear.{values}
use Rattle.rs_code.proofs.lanes.horner_step.Given as goal

abbrev pub invariant-loop-k : goal.invariant-loop-k
invariant-loop-k l = record {
  full : length l.next ≡ 16;
  written : (j : ℕ) → j < l.k
      → get_or (values l.next) j 0 ≡ plus (times (get_or (values l.now) j 0) (get_or (values l.points) j 0)) l.coefficient.value;
}
