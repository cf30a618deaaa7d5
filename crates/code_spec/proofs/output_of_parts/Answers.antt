use Rattle.code_spec.proofs.OutputLaws.{output_from-append, state_after-append, length-output_from}
use Rattle.code_spec.proofs.output_of_parts.Goals as goal

pub returns-clause-blocks : goal.returns-clause-blocks
returns-clause-blocks c = output_from-append

pub returns-clause-state : goal.returns-clause-state
returns-clause-state c = state_after-append

pub returns-clause-count : goal.returns-clause-count
returns-clause-count c = length-output_from
