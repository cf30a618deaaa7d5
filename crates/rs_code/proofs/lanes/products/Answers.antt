use Rattle.std.proofs.Common.{◌∙◌, ℕ, sym, ap₂, arith, subst, length-set, get_or}
use Rattle.std.proofs.lemmas.List.Elements.{All-from_get_or}
use Rattle.gf256.specs.Field.{IsElement, times}
use Rattle.gf256.specs.Linear.{values}
use Rattle.gf256.proofs.FieldLaws.{times-lt}
use Rattle.gf256.proofs.Lists.{at-values, length-values}
use Rattle.rs_code.proofs.PointTables.{values_written}
use Rattle.rs_code.proofs.lanes.products.Goals as goal

pub loop-k-preserved : goal.loop-k-preserved
loop-k-preserved c =
    let k : ℕ = c.loop-k.k in
    record {
      full = length-set c.loop-k.products k c.mul_by_doubling.result ∙ c.loop-k.invariant.full;
      written = values_written c.loop-k.products (λ j. times (get_or (values c.args.terms.now) j 0) (get_or (values c.args.factors.now) j 0)) k
          c.mul_by_doubling.result (omega (arith, c.loop-k.invariant.full, c.loop-k-test.true)) c.loop-k.invariant.written
          (c.mul_by_doubling.ensures.value ∙ ap₂ (λ u v. times u v) (sym (at-values c.args.terms.now k)) (sym (at-values c.args.factors.now k)));
    }

pub returns-clause-products : goal.returns-clause-products
returns-clause-products c = λ k h. c.loop-k.invariant.written k (omega (arith, h, c.loop-k-test.false))

pub returns-clause-elements : goal.returns-clause-elements
returns-clause-elements c =
    All-from_get_or IsElement (values c.loop-k.products) 0
    (λ k h. subst IsElement
    (sym (c.loop-k.invariant.written k (omega (arith, h, c.loop-k-test.false, c.loop-k.invariant.full, length-values c.loop-k.products)))) (times-lt _ _))
