use Rattle.std.proofs.Common.{◌≡◌, ◌∙◌, ◌+◌, ℕ, List, sym, ap, arith, length-set, get_or, take}
use Rattle.std.proofs.lemmas.List.{take_more, take_more_set, length-map}
use Rattle.gf256.specs.Field.{times}
use Rattle.gf256.specs.Linear.{values, scaled}
use Rattle.gf256.proofs.FieldLaws.{times_comm}
use Rattle.gf256.proofs.Lists.{at-values, values-set, length-values, get_or-scaled}
use Rattle.rs_code.proofs.Steps.{same_from_take}
use Rattle.rs_code.proofs.coder.multiple.Goals as goal

pub loop-k-preserved : goal.loop-k-preserved
loop-k-preserved c =
    let p : List ℕ = values c.args.polynomial.now in
    let row : List ℕ = scaled c.args.factor.value p in
    let k : ℕ = c.loop-k.k in
    let value : c.mul_by_doubling.result.value ≡ get_or row k 0 =
    c.mul_by_doubling.ensures.value ∙ ap (λ v. times v c.args.factor.value) (sym (at-values c.args.polynomial.now k)) ∙ times_comm (get_or p k 0) c.args.factor.value ∙ sym (get_or-scaled c.args.factor.value p k) in
    record {
      full = length-set c.loop-k.multiple k c.mul_by_doubling.result ∙ c.loop-k.invariant.full;
      written =
          ap (take (k + 1)) (values-set c.loop-k.multiple k c.mul_by_doubling.result)
          ∙ take_more_set (values c.loop-k.multiple) k c.mul_by_doubling.result.value (omega (arith, c.loop-k.invariant.full, c.loop-k-test.true, length-values c.loop-k.multiple))
          ∙ rw (c.loop-k.invariant.written, value)
          (sym (take_more row k 0 (omega (arith, c.loop-k-test.true, length-map p (times c.args.factor.value), length-values c.args.polynomial.now))));
    }

pub returns : goal.returns
returns c =
    let p : List ℕ = values c.args.polynomial.now in
    same_from_take (values c.loop-k.multiple) (scaled c.args.factor.value p) c.loop-k.k
    (omega (arith, c.loop-k.invariant.full, c.loop-k-test.false, length-values c.loop-k.multiple))
    (omega (arith, c.loop-k-test.false, length-map p (times c.args.factor.value), length-values c.args.polynomial.now))
    c.loop-k.invariant.written
