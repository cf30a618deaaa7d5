use Rattle.text_reading.proofs.Readers.{field_reads}
use Rattle.text_reading.proofs.fields_are_read.Goals as goal

pub returns : goal.returns
returns c = field_reads
