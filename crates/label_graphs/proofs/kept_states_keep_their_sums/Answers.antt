use Rattle.label_graphs.proofs.KeptSums.{kept_sums}
use Rattle.label_graphs.proofs.kept_states_keep_their_sums.Goals as goal

pub returns : goal.returns
returns c = kept_sums
