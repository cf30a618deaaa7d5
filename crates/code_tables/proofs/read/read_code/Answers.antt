use Rattle.code_tables.proofs.ReadParts.{reads_code}
use Rattle.code_tables.proofs.read.read_code.Goals as goal

pub returns : goal.returns
returns c = reads_code c.args.bytes.now c.whole.result c.whole.ensures
