use Rattle.split_spec.proofs.SinkWeights.{a_sink_is_irreducible}
use Rattle.split_spec.proofs.rounds.a_sink_is_irreducible.Goals as goal

pub returns : goal.returns
returns c = a_sink_is_irreducible
