use Rattle.code_spec.proofs.WitnessLaws.{outside_is_one}
use Rattle.code_spec.proofs.least_words_outside_are_one.Goals as goal

pub returns : goal.returns
returns c = record { one = outside_is_one }
