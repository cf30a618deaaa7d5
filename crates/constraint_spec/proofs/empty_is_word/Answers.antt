use Rattle.constraint_spec.proofs.Words.{IsWordOf-nil}
use Rattle.constraint_spec.proofs.empty_is_word.Goals as goal

pub returns : goal.returns
returns c = IsWordOf-nil
