use Rattle.gf256.proofs.FieldLaws.{plus_comm, plus_assoc, plus-zero, plus_self, plus-lt}
use Rattle.gf256.proofs.laws.sum_laws.Goals as goal

pub returns-clause-commutes : goal.returns-clause-commutes
returns-clause-commutes c = plus_comm

pub returns-clause-associates : goal.returns-clause-associates
returns-clause-associates c = plus_assoc

pub returns-clause-zero : goal.returns-clause-zero
returns-clause-zero c = plus-zero

pub returns-clause-own_negative : goal.returns-clause-own_negative
returns-clause-own_negative c = plus_self

pub returns-clause-closed : goal.returns-clause-closed
returns-clause-closed c = plus-lt
