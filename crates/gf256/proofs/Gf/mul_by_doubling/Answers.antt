use Rattle.std.proofs.Common.{◌≡◌, ◌∙◌, ◌/◌, ap, ap₂, sym, arith, subst}
use Rattle.gf256.specs.Field.{IsProduct, plus, times}
use Rattle.gf256.proofs.FieldLaws.{IsProduct-times, zero-plus, plus-zero, zero-times}
use Rattle.gf256.proofs.Doublings.{doubled_more, halved_more, halved_all, bit_xor-plus}
use Rattle.gf256.proofs.Gf.mul_by_doubling.Goals as goal

pub loop-bit-init : goal.loop-bit-init
loop-bit-init c = record { product = zero-plus (times c.args.self.value c.args.other.value); halved = omega arith }

pub loop-bit-preserved : goal.loop-bit-preserved
loop-bit-preserved c = record {
  product =
      ap₂ (λ u v. plus u (times (c.loop-bit.rest / 2) v))
      (bit_xor-plus c.loop-bit.sum c.where_odd-sum.result ∙ ap (plus c.loop-bit.sum) c.where_odd-sum.ensures) c.times_x-doubled.ensures
      ∙ doubled_more c.loop-bit.sum c.loop-bit.rest c.loop-bit.doubled (omega arith)
      ∙ c.loop-bit.invariant.product;
  halved = halved_more c.loop-bit._bit c.loop-bit.rest 255 c.loop-bit.invariant.halved;
}

pub returns-clause-value : goal.returns-clause-value
returns-clause-value c =
    let none : c.loop-bit.rest ≡ 0 = halved_all c.loop-bit._bit c.loop-bit.rest (omega arith) c.loop-bit.invariant.halved in
    sym (ap (λ r. plus c.loop-bit.sum (times r c.loop-bit.doubled)) none
    ∙ ap (plus c.loop-bit.sum) (zero-times c.loop-bit.doubled) ∙ plus-zero c.loop-bit.sum)
    ∙ c.loop-bit.invariant.product

pub returns-clause-product : goal.returns-clause-product
returns-clause-product c =
    subst (IsProduct c.args.self.value c.args.other.value) (sym (returns-clause-value c))
    (IsProduct-times c.args.self.value c.args.other.value)
