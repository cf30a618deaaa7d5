use Rattle.std.proofs.Common.{◌∙◌, ◌/◌, ◌%◌, ℕ, List, arith, length-set}
use Rattle.gf256.specs.Linear.{values, scaled}
use Rattle.rs_code.proofs.Registers.{row_of_halves, rows_more}
use Rattle.rs_code.proofs.coder.multiples.Goals as goal

pub loop-f-preserved : goal.loop-f-preserved
loop-f-preserved c =
    let g : List ℕ = values c.args.polynomial.now in
    let f : ℕ = c.loop-f.f in
    record {
      high_full = length-set c.loop-f.high f _ ∙ c.loop-f.invariant.high_full;
      low_full = length-set c.loop-f.low f _ ∙ c.loop-f.invariant.low_full;
      rows = rows_more c.loop-f.high c.loop-f.low (λ k. scaled k g) f _ _
          (omega (arith, c.loop-f.invariant.high_full, c.loop-f-test.true)) (omega (arith, c.loop-f.invariant.low_full, c.loop-f-test.true))
          c.loop-f.invariant.rows
          (row_of_halves f _ _ _ _ g c.loop-f-test.true
          (c.sixteen_multiples-lower.ensures (f % 16) (omega arith)) (c.sixteen_multiples-upper.ensures (f / 16) (omega (arith, c.loop-f-test.true))));
    }
