use Rattle.split_spec.proofs.RunOfHeaviest.{heaviest_states_are_split}
use Rattle.split_spec.proofs.rounds.heaviest_states_are_split.Goals as goal

pub returns : goal.returns
returns c = heaviest_states_are_split
