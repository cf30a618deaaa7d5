use Rattle.code_spec.proofs.WitnessLaws.{least_is_one}
use Rattle.code_spec.proofs.least_ambiguous_pair_is_one.Goals as goal

pub returns : goal.returns
returns c = record { one = least_is_one }
