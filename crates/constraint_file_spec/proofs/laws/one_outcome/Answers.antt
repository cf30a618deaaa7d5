use Rattle.constraint_file_spec.proofs.Outcomes.{some_outcome, one_outcome}
use Rattle.constraint_file_spec.proofs.laws.one_outcome.Goals as goal

pub returns-clause-some : goal.returns-clause-some
returns-clause-some c bytes = some_outcome bytes

pub returns-clause-single : goal.returns-clause-single
returns-clause-single c = one_outcome
