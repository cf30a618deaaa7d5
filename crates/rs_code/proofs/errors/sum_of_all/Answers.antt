use Rattle.std.proofs.Common.{◌∙◌, sym, ap, ap₂, arith}
use Rattle.std.proofs.lemmas.List.{take_all}
use Rattle.gf256.specs.Field.{plus}
use Rattle.gf256.specs.Linear.{values}
use Rattle.gf256.proofs.Lists.{at-values, length-values}
use Rattle.rs_code.specs.inside.Errors.{sum_of_terms}
use Rattle.rs_code.proofs.Steps.{sum_of_terms_more}
use Rattle.rs_code.proofs.errors.sum_of_all.Goals as goal

pub loop-k-preserved : goal.loop-k-preserved
loop-k-preserved c =
    c.add-sum.ensures.value ∙ ap₂ (λ u v. plus u v) c.loop-k.invariant (sym (at-values c.args.terms.now c.loop-k.k))
    ∙ sym (sum_of_terms_more (values c.args.terms.now) c.loop-k.k (omega (arith, c.loop-k-test.true, c.told-terms, length-values c.args.terms.now)))

pub returns : goal.returns
returns c =
    c.loop-k.invariant
    ∙ ap sum_of_terms (take_all c.loop-k.k (values c.args.terms.now) (omega (arith, c.loop-k-test.false, c.told-terms, length-values c.args.terms.now)))
