use Rattle.std.proofs.Common.{◌≡◌, ◌*◌, ◌^◌, ◌≤◌}
use Rattle.gf256.specs.Field.{plus, times}
use Rattle.gf256.proofs.Gf.mul_by_doubling.Given as goal

abbrev pub invariant-loop-bit : goal.invariant-loop-bit
invariant-loop-bit l = record {
  product : plus l.sum (times l.rest l.doubled) ≡ times l.fn.self.value l.fn.other.value;
  halved : 2 ^ l._bit * l.rest ≤ 255;
}
