use Rattle.constraint_spec.proofs.RawStates.{raw_state_of_word, one_raw_state}
use Rattle.constraint_spec.proofs.raw_state_of_a_word.Goals as goal

pub returns-clause-parts : goal.returns-clause-parts
returns-clause-parts c = raw_state_of_word

pub returns-clause-single : goal.returns-clause-single
returns-clause-single c = one_raw_state
