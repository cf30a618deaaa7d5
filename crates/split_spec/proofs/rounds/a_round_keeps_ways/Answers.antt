use Rattle.split_spec.proofs.RoundWeights.{ways_kept}
use Rattle.split_spec.proofs.rounds.a_round_keeps_ways.Goals as goal

pub returns : goal.returns
returns c = ways_kept
