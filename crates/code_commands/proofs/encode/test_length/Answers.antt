use Rattle.code_commands.proofs.TextLaws.{text_fits, text_too_long}
use Rattle.code_commands.proofs.encode.test_length.Goals as goal

pub returns-then-symbol_count-ge-TEXT_LIMIT : goal.returns-then-symbol_count-ge-TEXT_LIMIT
returns-then-symbol_count-ge-TEXT_LIMIT c = text_too_long c.args.code.now c.args.file.now c.symbol_count.result c.symbol_count.ensures.text c.if-symbol_count-ge-TEXT_LIMIT.true

pub returns : goal.returns
returns c = text_fits c.args.code.now c.args.file.now c.symbol_count.result c.symbol_count.ensures.text c.if-symbol_count-ge-TEXT_LIMIT.false
