use Rattle.std.proofs.Common.{◌≡◌, ◌+◌, ◌-◌, ◌*◌, take, drop, ap, ◌∙◌, arith}
use Rattle.block_codec.proofs.GroupLaws.{packed_more}
use Rattle.block_codec.proofs.digits.packed.Goals as goal

pub loop-i-preserved : goal.loop-i-preserved
loop-i-preserved c =
    let digits = c.args.digits.now in
    let i = c.loop-i.i in
    let size : 8 * i + 8 - 8 * i ≡ 8 = omega arith in
    packed_more digits _ i c.loop-i.value c.in_ok-byte.byte c.joined_wide-value.result (omega (arith, c.loop-i-test.true, c.requires.count)) (ap (λ n. take n (drop (8 * i) digits)) size) c.in_ok-byte.ensures.digits c.in_ok-byte.ensures.small
    (c.joined_wide-value.ensures.value ∙ ap (λ n. c.loop-i.value * 256 + n) c.from.ensures) c.joined_wide-value.ensures.below c.loop-i.invariant
