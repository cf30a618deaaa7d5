use Rattle.std.proofs.Common.{◌∙◌, ap, arith, length-set}
use Rattle.gf256.specs.Field.{times, power}
use Rattle.rs_code.proofs.PointTables.{values_written}
use Rattle.rs_code.proofs.monomials.progression.Goals as goal

pub loop-j-preserved : goal.loop-j-preserved
loop-j-preserved c = record {
  full = length-set c.loop-j.terms c.loop-j.j c.mul.result ∙ c.loop-j.invariant.full;
  done = values_written c.loop-j.terms (λ k. times c.args.first.value (power c.args.ratio.value k)) c.loop-j.j c.mul.result
      (omega (arith, c.loop-j.invariant.full, c.loop-j-test.true)) c.loop-j.invariant.done
      (c.mul.ensures.value ∙ ap (times c.args.first.value) c.pow.ensures);
}
