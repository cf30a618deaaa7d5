use Rattle.code_spec.proofs.DecoderLaws.{decoded_single}
use Rattle.code_spec.proofs.decoder_has_one_answer.Goals as goal

pub returns : goal.returns
returns c = decoded_single
