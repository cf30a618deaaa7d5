use Rattle.split_spec.proofs.RunAlone.{a_row_has_one_run}
use Rattle.split_spec.proofs.runs.a_row_has_one_run.Goals as goal

pub returns : goal.returns
returns c = a_row_has_one_run
