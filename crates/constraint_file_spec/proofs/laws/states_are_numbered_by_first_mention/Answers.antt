use Rattle.constraint_file_spec.proofs.Names.{mentioned_in_order, named_once, numbers_are_places}
use Rattle.constraint_file_spec.proofs.laws.states_are_numbered_by_first_mention.Goals as goal

pub returns-clause-order : goal.returns-clause-order
returns-clause-order c = mentioned_in_order

pub returns-clause-once : goal.returns-clause-once
returns-clause-once c = named_once

pub returns-clause-numbers : goal.returns-clause-numbers
returns-clause-numbers c = numbers_are_places
