use Rattle.split_spec.proofs.OneRound.{one_round_follows}
use Rattle.split_spec.proofs.rounds.one_round_follows.Goals as goal

pub returns : goal.returns
returns c = one_round_follows
