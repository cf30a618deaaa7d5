use Rattle.std.proofs.Common.{◌∙◌, sym, ap₂, arith, length-set, [], ◌++◌, ◌∷◌}
use Rattle.std.proofs.lemmas.List.{take_more, take_more_set}
use Rattle.gf256.specs.Linear.{values}
use Rattle.gf256.proofs.Lists.{at-values, length-values}
use Rattle.rs_code.proofs.Steps.{same_from_take}
use Rattle.rs_code.proofs.monomials.bytes_of.Goals as goal

pub loop-j-preserved : goal.loop-j-preserved
loop-j-preserved c = record {
  full = length-set c.loop-j.bytes c.loop-j.j _ ∙ c.loop-j.invariant.full;
  copied =
      take_more_set c.loop-j.bytes c.loop-j.j _ (omega (arith, c.loop-j.invariant.full, c.loop-j-test.true))
      ∙ ap₂ (λ xs x. xs ++ x ∷ []) c.loop-j.invariant.copied (sym (at-values c.args.elements.now c.loop-j.j))
      ∙ sym (take_more (values c.args.elements.now) c.loop-j.j 0 (omega (arith, c.loop-j-test.true, length-values c.args.elements.now)));
}

pub returns : goal.returns
returns c =
    same_from_take c.loop-j.bytes (values c.args.elements.now) c.loop-j.j (omega (arith, c.loop-j.invariant.full, c.loop-j-test.false))
    (omega (arith, c.loop-j-test.false, length-values c.args.elements.now)) c.loop-j.invariant.copied
