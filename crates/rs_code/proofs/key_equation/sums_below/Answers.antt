use Rattle.std.proofs.Common.{◌∙◌, ◌≡◌, sym, ap₂, arith, set, below_more, get_or, subst}
use Rattle.gf256.specs.Field.{IsElement}
use Rattle.gf256.specs.Linear.{values}
use Rattle.gf256.proofs.FieldLaws.{zero-plus}
use Rattle.gf256.proofs.Lists.{at-values, values-set, length-values}
use Rattle.rs_code.proofs.Division.{sums_more}
use Rattle.rs_code.proofs.key_equation.sums_below.Goals as goal

pub loop-i-preserved : goal.loop-i-preserved
loop-i-preserved c =
    let sums = values c.args.sums.now in
    let i = c.loop-i.i in
    let value : c.add.result.value ≡ get_or sums i 0 = c.add.ensures.value ∙ zero-plus _ ∙ sym (at-values c.args.sums.now i) in
    record {
      copied =
          values-set c.loop-i.coefficients i c.add.result
          ∙ ap₂ (λ xs x. set xs i x) c.loop-i.invariant.copied value
          ∙ sums_more sums i 48 (omega (arith, c.requires)) (omega (arith, c.requires, length-values c.args.sums.now));
      elements = below_more _ _ c.loop-i.invariant.elements (subst IsElement (sym (at-values c.args.sums.now i)) c.add.ensures.elements.1);
    }
