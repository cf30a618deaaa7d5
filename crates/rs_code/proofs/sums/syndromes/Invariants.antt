use Rattle.std.proofs.Common.{◌≡◌, ◌*◌, ◌<◌, ℕ, get_or, length}
use Rattle.rs_code.specs.Word.{weighted_sum}
use Rattle.rs_code.proofs.sums.syndromes.Given as goal

abbrev pub invariant-loop-half : goal.invariant-loop-half
invariant-loop-half l = record {
  full : length l.sums ≡ 32;
  written : (i : ℕ) → i < 16 * l.half → (get_or l.sums i (record { value = 0 })).value ≡ weighted_sum l.rest i;
}
