use Rattle.constraint_spec.proofs.EdgeOrder.{edge_not_before_itself, edges_before, edge_before_or_same}
use Rattle.constraint_spec.proofs.edges_are_ordered.Goals as goal

pub returns-clause-strict : goal.returns-clause-strict
returns-clause-strict c e = edge_not_before_itself e

pub returns-clause-onward : goal.returns-clause-onward
returns-clause-onward c e f g = edges_before e f g

pub returns-clause-total : goal.returns-clause-total
returns-clause-total c e f = edge_before_or_same e f
