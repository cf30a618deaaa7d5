use Rattle.constraint_spec.proofs.Words.{IsWordOf-factor}
use Rattle.constraint_spec.proofs.factor_is_word.Goals as goal

pub returns : goal.returns
returns c = IsWordOf-factor
