use Rattle.std.proofs.Common.{◌≡◌, ℕ, ◌*◌, ◌<◌, take}
use Rattle.std.specs.Prelude.{All}
use Rattle.gf256.specs.Field.{IsElement, times, power, alpha}
use Rattle.rs_code.specs.Word.{weighted_sum}
use Rattle.rs_code.proofs.parity.Given as goal

abbrev pub invariant-loop-symbol : goal.invariant-loop-symbol
invariant-loop-symbol l = record {
  elements : All IsElement l.out;
  remainder : (i : ℕ) → i < 2 * l.t → weighted_sum l.out i ≡ times (weighted_sum (take l.symbol-index l.symbols) i) (power alpha (2 * l.t * i));
}
