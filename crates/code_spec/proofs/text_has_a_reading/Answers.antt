use Rattle.code_spec.proofs.SomeReading.{some_reading}
use Rattle.code_spec.proofs.text_has_a_reading.Goals as goal

pub returns : goal.returns
returns c = some_reading
