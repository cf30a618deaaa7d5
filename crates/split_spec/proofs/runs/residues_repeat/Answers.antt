use Rattle.split_spec.proofs.ResidueLaws.{residues_repeat}
use Rattle.split_spec.proofs.runs.residues_repeat.Goals as goal

pub returns : goal.returns
returns c = residues_repeat
