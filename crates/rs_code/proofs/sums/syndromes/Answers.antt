use Rattle.std.proofs.Common.{◌≡◌, ◌∙◌, ◌+◌, ◌*◌, ℕ, List, ap, arith, length, get_or, sym}
use borrow.Rule.Slice.PartMut.{same_len_mid}
use Rattle.gf256.specs.Field.{power, alpha}
use Rattle.gf256.specs.declared.Gf.{Gf}
use Rattle.gf256.specs.Linear.{values}
use Rattle.gf256.proofs.Lists.{at-values}
use Rattle.rs_code.specs.Word.{weighted_sum}
use Rattle.rs_code.specs.Polynomial.{value_at}
use Rattle.rs_code.proofs.Steps.{values-take}
use Rattle.rs_code.proofs.PointTables.{block_put}
use Rattle.rs_code.proofs.sums.syndromes.Goals as goal

pub loop-half-preserved : goal.loop-half-preserved
loop-half-preserved c =
    let half : ℕ = c.loop-half.half in
    let n : ℕ = length c.args.rest.now in
    let before = c.loop-half.invariant in
    let block : List Gf = c.copy_from_slice.new.self in
    record {
      full = same_len_mid _ _ c.loop-half.sums block c.copy_from_slice.ensures.len ∙ before.full;
      written = block_put c.loop-half.sums block _ (record { value = 0 }) (λ i element. element.value ≡ weighted_sum c.args.rest.now i)
          (16 * half) (16 * (half + 1)) (omega (arith, c.copy_from_slice.ensures.len)) (omega (arith, before.full, c.loop-half-test.true, c.requires.full, c.requires.most))
          before.written
          (λ j k. sym (at-values block j)
          ∙ ap (λ xs. get_or (values xs) j 0) c.copy_from_slice.ensures.after
          ∙ c.first_values-sixteen.ensures j (omega (arith, k, c.copy_from_slice.ensures.len))
          ∙ ap (λ p. value_at p (power alpha (16 * half + j))) (values-take n c.polynomial_of-polynomial.result)
          ∙ c.polynomial_of-polynomial.ensures (16 * half + j));
    }

pub returns : goal.returns
returns c = λ i h. at-values c.loop-half.sums i ∙ c.loop-half.invariant.written i (omega (arith, h, c.loop-half-test.false, c.requires.full))
