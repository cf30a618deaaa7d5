use Rattle.std.proofs.Common.{◌∙◌, ap, arith, length-set, get_or}
use Rattle.gf256.specs.Field.{power, alpha}
use Rattle.gf256.specs.Linear.{values}
use Rattle.gf256.proofs.Lists.{values-set, length-values}
use Rattle.rs_code.proofs.Steps.{written_more}
use Rattle.rs_code.proofs.errors.points_of.Goals as goal

pub loop-k-preserved : goal.loop-k-preserved
loop-k-preserved c = record {
  full = length-set c.loop-k.points c.loop-k.k c.pow.result ∙ c.loop-k.invariant.full;
  written = λ j h.
      ap (λ ys. get_or ys j 0) (values-set c.loop-k.points c.loop-k.k c.pow.result)
      ∙ written_more (values c.loop-k.points) (λ k. power alpha (get_or c.args.exponents.now k 0)) c.loop-k.k c.pow.result.value
      (omega (arith, c.loop-k.invariant.full, c.loop-k-test.true, c.requires, length-values c.loop-k.points)) c.loop-k.invariant.written c.pow.ensures j h;
}
