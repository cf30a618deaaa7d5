use Rattle.std.proofs.Common.{◌≡◌, ◌≤◌, ◌<◌, ◌∙◌, sym, ap, arith, inl, inr, ⊎_elim, replicate}
use Rattle.std.proofs.lemmas.Bool.{cases_lt}
use Rattle.gf256.specs.Field.{power, alpha}
use Rattle.gf256.proofs.FieldLaws.{power-zero}
use Rattle.rs_code.proofs.Roots.{at_zeros}
use Rattle.rs_code.proofs.Steps.{next_point, zeros_of_replicate}
use Rattle.rs_code.proofs.encode.generator.Goals as goal

pub loop-degree-init : goal.loop-degree-init
loop-degree-init c = record {
  root_is = sym (power-zero alpha);
  zeros = λ k h. at_zeros (replicate 32 0) k (zeros_of_replicate 32 32);
  roots = λ i h. absurd (omega (arith, h));
}

pub loop-degree-preserved : goal.loop-degree-preserved
loop-degree-preserved c = record {
  root_is = next_point _ _ c.loop-degree.degree c.loop-degree.invariant.root_is c.mul-root.ensures.value;
  zeros = c.with_root-product.ensures.zeros;
  roots = λ i h. c.with_root-product.ensures.roots i
      (⊎_elim
      (λ (below : i < c.loop-degree.degree). inl (c.loop-degree.invariant.roots i below))
      (λ (above : c.loop-degree.degree ≤ i).
      let here : c.loop-degree.degree ≡ i = omega (arith, h, above) in
      inr (c.loop-degree.invariant.root_is ∙ ap (power alpha) here))
      (cases_lt i c.loop-degree.degree));
}
