use Rattle.std.proofs.Common.{◌∙◌, ◌+◌, ap, arith, length-set}
use Rattle.gf256.specs.Field.{power, alpha}
use Rattle.rs_code.proofs.PointTables.{values_written}
use Rattle.rs_code.proofs.monomials.powers_of_step.Goals as goal

pub loop-place-preserved : goal.loop-place-preserved
loop-place-preserved c = record {
  full = length-set c.loop-place.steps c.loop-place.place c.pow.result ∙ c.loop-place.invariant.full;
  done = values_written c.loop-place.steps (λ k. power (power alpha 16) (k + 1)) c.loop-place.place c.pow.result
      (omega (arith, c.loop-place.invariant.full, c.loop-place-test.true)) c.loop-place.invariant.done
      (c.pow.ensures ∙ ap (λ v. power v (c.loop-place.place + 1)) c.pow-step.ensures);
}
