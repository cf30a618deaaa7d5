use Rattle.std.proofs.Common.{arith}
use Rattle.block_codec.proofs.NumberLaws.{number_more, bytes_small}
use Rattle.block_codec.proofs.words.number_of_bytes.Goals as goal

pub loop-byte-preserved : goal.loop-byte-preserved
loop-byte-preserved c =
    number_more c.args.bytes.now c.loop-byte.byte-index c.loop-byte.value c.from.result (bytes_small c.args.bytes.now (λ i. omega (arith, c.type_inv.bytes i)))
    c.loop-byte-test.true c.requires.short c.loop-byte.invariant c.from.ensures
