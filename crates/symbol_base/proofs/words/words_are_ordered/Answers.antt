use Rattle.symbol_base.proofs.WordOrder.{not_before_itself, before_on, before_or_same}
use Rattle.symbol_base.proofs.words.words_are_ordered.Goals as goal

pub returns-clause-strict : goal.returns-clause-strict
returns-clause-strict c u = not_before_itself u

pub returns-clause-onward : goal.returns-clause-onward
returns-clause-onward c u v w = before_on u v w

pub returns-clause-total : goal.returns-clause-total
returns-clause-total c u v = before_or_same u v
