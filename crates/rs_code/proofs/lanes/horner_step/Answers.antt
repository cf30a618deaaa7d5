use Rattle.std.proofs.Common.{◌∙◌, ℕ, sym, ap, ap₂, arith, length-set, get_or}
use Rattle.gf256.specs.Field.{plus, times}
use Rattle.gf256.specs.Linear.{values}
use Rattle.gf256.proofs.Lists.{at-values}
use Rattle.rs_code.proofs.PointTables.{values_written}
use Rattle.rs_code.proofs.lanes.horner_step.Goals as goal

pub loop-k-preserved : goal.loop-k-preserved
loop-k-preserved c =
    let k : ℕ = c.loop-k.k in
    record {
      full = length-set c.loop-k.next k c.add.result ∙ c.loop-k.invariant.full;
      written = values_written c.loop-k.next
          (λ j. plus (times (get_or (values c.args.now.now) j 0) (get_or (values c.args.points.now) j 0)) c.args.coefficient.value) k
          c.add.result (omega (arith, c.loop-k.invariant.full, c.loop-k-test.true)) c.loop-k.invariant.written
          (c.add.ensures.value
          ∙ ap (λ v. plus v c.args.coefficient.value)
          (c.mul_by_doubling.ensures.value ∙ ap₂ (λ u v. times u v) (sym (at-values c.args.now.now k)) (sym (at-values c.args.points.now k))));
    }

pub returns : goal.returns
returns c = λ k h. c.loop-k.invariant.written k (omega (arith, h, c.loop-k-test.false))
