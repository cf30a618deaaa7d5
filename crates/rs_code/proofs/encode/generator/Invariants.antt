use Rattle.std.proofs.Common.{◌≡◌, ℕ, ◌*◌, ◌<◌, take}
use Rattle.gf256.specs.Field.{power, alpha}
use Rattle.gf256.specs.Linear.{values}
use Rattle.rs_code.specs.Word.{weighted_sum}
use Rattle.rs_code.specs.Polynomial.{IsBelowDegree}
use Rattle.rs_code.proofs.encode.generator.Given as goal

abbrev pub invariant-loop-degree : goal.invariant-loop-degree
invariant-loop-degree l = record {
  root_is : l.root.value ≡ power alpha l.degree;
  zeros : IsBelowDegree l.degree (values l.product);
  roots : (i : ℕ) → i < l.degree → weighted_sum (take l.degree (values l.product)) i ≡ power alpha (l.degree * i);
}
