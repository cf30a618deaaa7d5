use Rattle.constraint_file_spec.proofs.UnknownKeys.{unknown_least, least_unknown}
use Rattle.constraint_file_spec.proofs.laws.least_unknown_key_is_named.Goals as goal

pub returns : goal.returns
returns c bytes name = (unknown_least bytes name, λ least other. least_unknown bytes name least.0 least.1 least.2)
