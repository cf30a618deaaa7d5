use Rattle.gf256.proofs.FieldLaws.{alpha-255, alpha_distinct, is_alpha_power}
use Rattle.gf256.proofs.laws.alpha_laws.Goals as goal

pub returns-clause-order : goal.returns-clause-order
returns-clause-order c = alpha-255

pub returns-clause-distinct : goal.returns-clause-distinct
returns-clause-distinct c = alpha_distinct

pub returns-clause-generates : goal.returns-clause-generates
returns-clause-generates c = is_alpha_power
