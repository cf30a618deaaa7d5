use Rattle.code_tables.proofs.OneWay.{read_back}
use Rattle.code_tables.proofs.laws.text_is_read_back.Goals as goal

pub returns : goal.returns
returns c = read_back
