use Rattle.std.proofs.Common.{◌∙◌, ◌*◌, ◌%◌, ◌^◌, ap, arith}
use Rattle.std.specs.Prelude.{bit_xor}
use Rattle.gf256.proofs.Doublings.{times_x_low, times_x_high}
use Rattle.gf256.proofs.times_x.Goals as goal
use Rattle.gf256.proofs.times_x.Goals.{then-element-lt128, else-element-lt128}

pub returns : goal.returns
returns c =
    let a = c.args.element in
    elim c.if-element-lt128.branch [
      | then-element-lt128 w ↦ ap (bit_xor ((a * 2 ^ 1) % 2 ^ 8)) w.carry-is ∙ times_x_low a w.if-element-lt128.true
      | else-element-lt128 w ↦ ap (bit_xor ((a * 2 ^ 1) % 2 ^ 8)) w.carry-is ∙ times_x_high a w.if-element-lt128.false (omega arith)
    ]
