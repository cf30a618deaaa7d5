use Rattle.std.proofs.Common.{arith}
use Rattle.symbol_base.proofs.BlockLemmas.{symbols_of-number_of}
use Rattle.symbol_base.proofs.blocks.symbols_of_a_block.Goals as goal

pub returns : goal.returns
returns c alphabet word two over = symbols_of-number_of alphabet word (omega arith) over
