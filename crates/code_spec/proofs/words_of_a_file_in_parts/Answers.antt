use Rattle.code_spec.proofs.FileWords.{file_words-append}
use Rattle.code_spec.proofs.words_of_a_file_in_parts.Goals as goal

pub returns : goal.returns
returns c = file_words-append
