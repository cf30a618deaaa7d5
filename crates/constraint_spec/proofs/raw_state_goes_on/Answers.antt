use Rattle.constraint_spec.proofs.RawStates.{raw_state-push}
use Rattle.constraint_spec.proofs.raw_state_goes_on.Goals as goal

pub returns : goal.returns
returns c = raw_state-push
