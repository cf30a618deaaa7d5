use Rattle.symbol_base.proofs.BitsLemmas.{bits-set_one, bits-set_zero}
use Rattle.symbol_base.proofs.bits.set_bit.Goals as goal

pub returns-then-value : goal.returns-then-value
returns-then-value c = rw c.if-value.true (bits-set_one c.args.bytes.now c.args.at c.requires)

pub returns-else-value : goal.returns-else-value
returns-else-value c = rw c.if-value.false (bits-set_zero c.args.bytes.now c.args.at c.requires)
