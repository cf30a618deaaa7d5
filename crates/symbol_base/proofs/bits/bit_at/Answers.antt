use Rattle.symbol_base.proofs.BitsLemmas.{tested_bit}
use Rattle.symbol_base.proofs.bits.bit_at.Goals as goal

pub returns : goal.returns
returns c = tested_bit c.args.bytes.now c.args.at
