use Rattle.constraint_file_spec.proofs.Types.{types_told}
use Rattle.constraint_file_spec.proofs.laws.first_wrong_type_is_named.Goals as goal

pub returns : goal.returns
returns c = types_told
