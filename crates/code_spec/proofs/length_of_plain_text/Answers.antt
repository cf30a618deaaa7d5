use Rattle.code_spec.proofs.PlainTextLaws.{length-plain_symbols, length-plain_text}
use Rattle.code_spec.proofs.length_of_plain_text.Goals as goal

pub returns-clause-symbols : goal.returns-clause-symbols
returns-clause-symbols c = length-plain_symbols

pub returns-clause-text : goal.returns-clause-text
returns-clause-text c = length-plain_text
