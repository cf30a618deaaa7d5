use Rattle.text_reading.proofs.LineSteps.{text_of-append}
use Rattle.code_text_spec.proofs.Lines.{constraint_in_front}
use Rattle.code_text_spec.proofs.constraint_stands_in_front.Goals as goal

pub returns-clause-parts : goal.returns-clause-parts
returns-clause-parts c = text_of-append

pub returns-clause-front : goal.returns-clause-front
returns-clause-front c = constraint_in_front
