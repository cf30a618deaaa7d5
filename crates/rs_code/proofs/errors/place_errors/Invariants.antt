use Rattle.std.proofs.Common.{◌≡◌, ℕ, take, length, List}
use Rattle.std.specs.Prelude.{All}
use Rattle.gf256.specs.Field.{IsElement}
use Rattle.gf256.specs.Linear.{values}
use Rattle.rs_code.specs.Word.{weighted_sum}
use Rattle.rs_code.specs.inside.Errors.{moment, powers, HasRoots, IsRooted}
use Rattle.rs_code.proofs.errors.place_errors.Given as goal

abbrev pub invariant-loop-k : goal.invariant-loop-k
invariant-loop-k l = record {
  full : length l.errors ≡ 255;
  elements : All IsElement l.errors;
  sums : (i : ℕ) → weighted_sum (take l.symbols l.errors) i ≡ moment (values l.error_values) (powers (take l.k l.exponents)) i;
  rooted : (p : List ℕ) → HasRoots p (powers l.exponents) → IsRooted p (take l.symbols l.errors);
}
