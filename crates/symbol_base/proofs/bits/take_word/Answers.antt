use Rattle.std.proofs.Common.{◌∙◌, arith}
use Rattle.symbol_base.proofs.BitsLemmas.{word_by_mask}
use Rattle.symbol_base.proofs.bits.take_word.Goals as goal

pub returns-clause-value : goal.returns-clause-value
returns-clause-value c =
    word_by_mask c.args.bytes.now c.args.at c.args.p c.from.result c.from-2.result (omega arith) (omega arith) (omega arith)
    (c.from.ensures ∙ c.byte_or_zero-high.ensures) (c.from-2.ensures ∙ c.byte_or_zero-low.ensures)
