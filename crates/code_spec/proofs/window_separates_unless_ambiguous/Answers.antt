use Rattle.code_spec.proofs.WitnessLaws.{separates_unless_ambiguous}
use Rattle.code_spec.proofs.window_separates_unless_ambiguous.Goals as goal

pub returns : goal.returns
returns c = record { none = separates_unless_ambiguous }
