use Rattle.code_spec.proofs.DecoderLaws.{decoded_output, decoded_data_words}
use Rattle.code_spec.proofs.written_words_are_decoded.Goals as goal

pub returns-clause-words : goal.returns-clause-words
returns-clause-words c = decoded_output

pub returns-clause-file : goal.returns-clause-file
returns-clause-file c = decoded_data_words
