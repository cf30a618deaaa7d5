use Rattle.gf256.proofs.FieldLaws.{power-zero, power-suc, power-add, power-mul, times-power, power-lt}
use Rattle.gf256.proofs.laws.power_laws.Goals as goal

pub returns-clause-to_zero : goal.returns-clause-to_zero
returns-clause-to_zero c = power-zero

pub returns-clause-to_next : goal.returns-clause-to_next
returns-clause-to_next c = power-suc

pub returns-clause-to_sum : goal.returns-clause-to_sum
returns-clause-to_sum c = power-add

pub returns-clause-to_product : goal.returns-clause-to_product
returns-clause-to_product c = power-mul

pub returns-clause-of_product : goal.returns-clause-of_product
returns-clause-of_product c = times-power

pub returns-clause-closed : goal.returns-clause-closed
returns-clause-closed c = power-lt
