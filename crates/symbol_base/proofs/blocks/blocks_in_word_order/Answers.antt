use Rattle.symbol_base.proofs.BlockLemmas.{number_of-order}
use Rattle.symbol_base.proofs.blocks.blocks_in_word_order.Goals as goal

pub returns : goal.returns
returns c alphabet u v two over_u over_v same = number_of-order alphabet u v over_u over_v same
