use Rattle.constraint_spec.specs.RawStateOf.{raw_state}
use Rattle.constraint_spec.proofs.RawStates.{raw_state_of_word}
use Rattle.constraint_spec.proofs.Following.{IsWordOf-push}
use Rattle.constraint_spec.proofs.raw_state_tells_what_follows.Goals as goal

pub returns : goal.returns
returns c = λ d w symbol ranges. IsWordOf-push d w (raw_state d w) symbol ranges (raw_state_of_word d w ranges)
