use Rattle.std.proofs.Common.{arith}
use Rattle.text_reading.proofs.Blocks.{reads_more, room_for_one}
use Rattle.text_reading.proofs.block.Goals as goal

pub overflow_mul-value : goal.overflow_mul-value
overflow_mul-value c =
    rw c.from.ensures (omega (arith, room_for_one c.args.alphabet c.split_at.result.0.now c.loop-byte.byte-index c.loop-byte.value c.requires.two c.requires.four c.loop-byte-test.true (omega arith) c.loop-byte.invariant))

pub overflow_add-value : goal.overflow_add-value
overflow_add-value c =
    rw (c.from.ensures, c.from-in-loop-byte.ensures) (omega (arith, room_for_one c.args.alphabet c.split_at.result.0.now c.loop-byte.byte-index c.loop-byte.value c.requires.two c.requires.four c.loop-byte-test.true (omega arith) c.loop-byte.invariant))

pub loop-byte-preserved : goal.loop-byte-preserved
loop-byte-preserved c =
    rw (c.from.ensures, c.from-in-loop-byte.ensures)
    (reads_more c.args.alphabet c.split_at.result.0.now c.loop-byte.byte-index c.loop-byte.value c.loop-byte-test.true c.if-byte-lt48.false c.if-byte-alphabet.false c.loop-byte.invariant)
