use Rattle.constraint_spec.proofs.Walks.{labels_by_states}
use Rattle.constraint_spec.proofs.walks_pass_states.Goals as goal

pub returns : goal.returns
returns c = labels_by_states
