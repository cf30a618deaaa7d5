use Rattle.code_spec.proofs.ReadBack.{read_back}
use Rattle.code_spec.proofs.plain_text_is_read_back.Goals as goal

pub returns : goal.returns
returns c = record { file = read_back }
