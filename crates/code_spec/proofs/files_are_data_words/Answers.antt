use Rattle.code_spec.proofs.DataWords.{data_words_below}
use Rattle.code_spec.proofs.files_are_data_words.Goals as goal

pub returns : goal.returns
returns c = data_words_below
