use Rattle.split_spec.proofs.RoundWeights.{weights_kept}
use Rattle.split_spec.proofs.rounds.a_round_keeps_weights.Goals as goal

pub returns : goal.returns
returns c = weights_kept
