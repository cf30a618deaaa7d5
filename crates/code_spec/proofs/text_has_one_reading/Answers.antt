use Rattle.code_spec.proofs.ReadingLaws.{reading_one, front_one}
use Rattle.code_spec.proofs.text_has_one_reading.Goals as goal

pub returns-clause-reading : goal.returns-clause-reading
returns-clause-reading c = reading_one

pub returns-clause-front : goal.returns-clause-front
returns-clause-front c = front_one
