use Rattle.constraint_file_spec.proofs.KeyNames.{listed, told}
use Rattle.constraint_file_spec.proofs.laws.keys_are_told_by_their_names.Goals as goal

pub returns-clause-all : goal.returns-clause-all
returns-clause-all c = listed

pub returns-clause-names : goal.returns-clause-names
returns-clause-names c = told
