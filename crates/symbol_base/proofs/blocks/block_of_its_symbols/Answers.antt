use Rattle.std.proofs.Common.{◌∙◌, arith}
use Rattle.std.proofs.Math.Nat.{mod-eq_of_lt}
use Rattle.symbol_base.proofs.BlockLemmas.{length-symbols_of, number_of-symbols_of, IsOver-symbols_of}
use Rattle.symbol_base.proofs.blocks.block_of_its_symbols.Goals as goal

pub returns-clause-value : goal.returns-clause-value
returns-clause-value c alphabet q value two below =
    number_of-symbols_of alphabet q value (omega arith) ∙ mod-eq_of_lt below

pub returns-clause-word : goal.returns-clause-word
returns-clause-word c alphabet q value two = IsOver-symbols_of alphabet q value (omega arith)

pub returns-clause-count : goal.returns-clause-count
returns-clause-count c = length-symbols_of
