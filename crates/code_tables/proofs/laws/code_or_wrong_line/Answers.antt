use Rattle.code_tables.proofs.CodeLaws.{code_or_wrong, one_code}
use Rattle.code_tables.proofs.OneWay.{one_wrong_line, no_wrong_line}
use Rattle.code_tables.proofs.laws.code_or_wrong_line.Goals as goal

pub returns-clause-either : goal.returns-clause-either
returns-clause-either c = code_or_wrong

pub returns-clause-not_both : goal.returns-clause-not_both
returns-clause-not_both c = no_wrong_line

pub returns-clause-one_code : goal.returns-clause-one_code
returns-clause-one_code c = one_code

pub returns-clause-one_line : goal.returns-clause-one_line
returns-clause-one_line c = one_wrong_line
