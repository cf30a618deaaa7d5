use Rattle.gf256.proofs.FieldLaws.{IsProduct-times, IsProduct-single, times_comm, times_assoc, times-plus, times-zero, times-one, times-lt, times-inverse, inverse-single, no_zero_divisors}
use Rattle.gf256.proofs.laws.product_laws.Goals as goal

pub returns-clause-remainder : goal.returns-clause-remainder
returns-clause-remainder c = IsProduct-times

pub returns-clause-single : goal.returns-clause-single
returns-clause-single c = IsProduct-single

pub returns-clause-commutes : goal.returns-clause-commutes
returns-clause-commutes c = times_comm

pub returns-clause-associates : goal.returns-clause-associates
returns-clause-associates c = times_assoc

pub returns-clause-distributes : goal.returns-clause-distributes
returns-clause-distributes c = times-plus

pub returns-clause-zero : goal.returns-clause-zero
returns-clause-zero c = times-zero

pub returns-clause-one : goal.returns-clause-one
returns-clause-one c = times-one

pub returns-clause-closed : goal.returns-clause-closed
returns-clause-closed c = times-lt

pub returns-clause-inverse : goal.returns-clause-inverse
returns-clause-inverse c = times-inverse

pub returns-clause-single_inverse : goal.returns-clause-single_inverse
returns-clause-single_inverse c = inverse-single

pub returns-clause-no_zero_divisors : goal.returns-clause-no_zero_divisors
returns-clause-no_zero_divisors c = no_zero_divisors
