use Rattle.block_codec.proofs.FileLaws.{nothing_gives_nothing, file_again, end_again}
use Rattle.block_codec.proofs.laws.plain_text_gives_its_file.Goals as goal

pub returns-clause-start : goal.returns-clause-start
returns-clause-start c = nothing_gives_nothing

pub returns-clause-bytes : goal.returns-clause-bytes
returns-clause-bytes c = file_again

pub returns-clause-end : goal.returns-clause-end
returns-clause-end c = end_again
