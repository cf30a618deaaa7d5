use Rattle.constraint_file_spec.proofs.Ranges.{keeps_ranges, file_checked}
use Rattle.constraint_file_spec.proofs.laws.constraints_keep_their_ranges.Goals as goal

pub returns-clause-ranges : goal.returns-clause-ranges
returns-clause-ranges c bytes constraint reads = keeps_ranges reads.0 constraint (file_checked bytes reads.0 reads.1) reads.2
