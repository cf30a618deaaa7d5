use Rattle.std.proofs.Common.{arith}
use Rattle.code_model.specs.Data.{code_data}
use Rattle.block_codec.proofs.CountLaws.{blocks_counted}
use Rattle.block_codec.proofs.counts.block_count.Goals as goal

pub returns-clause-words : goal.returns-clause-words
returns-clause-words c = λ file long.
    blocks_counted (code_data c.code.inside) c.args.code.now file c.args.bytes _ c.code.view_is long (omega (arith, c.count_words.ensures.count, c.from.ensures, c.from-2.ensures))
