use Rattle.std.proofs.Common.{◌∙◌, sym, ap, arith, length-set, get_or}
use Rattle.gf256.specs.Field.{power, alpha, inverse}
use Rattle.gf256.proofs.FieldLaws.{alpha-ne-zero}
use Rattle.rs_code.proofs.PointTables.{values_written}
use Rattle.rs_code.proofs.errors.inverse_points.Goals as goal

pub inv-requires : goal.inv-requires
inv-requires c = λ z. alpha-ne-zero (get_or c.args.exponents.now c.loop-k.k 0) (sym c.pow.ensures ∙ z)

pub loop-k-preserved : goal.loop-k-preserved
loop-k-preserved c = record {
  full = length-set c.loop-k.points c.loop-k.k c.inv.result ∙ c.loop-k.invariant.full;
  written = values_written c.loop-k.points (λ k. inverse (power alpha (get_or c.args.exponents.now k 0))) c.loop-k.k c.inv.result
      (omega (arith, c.loop-k.invariant.full, c.loop-k-test.true, c.requires)) c.loop-k.invariant.written
      (c.inv.ensures.value ∙ ap inverse c.pow.ensures);
}
