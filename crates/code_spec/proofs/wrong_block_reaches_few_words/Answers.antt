use Rattle.code_spec.proofs.DecoderLaws.{decoded_alike}
use Rattle.code_spec.proofs.wrong_block_reaches_few_words.Goals as goal

pub returns : goal.returns
returns c = decoded_alike
