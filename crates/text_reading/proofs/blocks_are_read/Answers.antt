use Rattle.text_reading.proofs.Readers.{block_reads}
use Rattle.text_reading.proofs.blocks_are_read.Goals as goal

pub returns : goal.returns
returns c = block_reads
