use Rattle.code_check.proofs.OneAnswer.{checked_has_none, one_fault}
use Rattle.code_check.proofs.a_code_has_one_answer.Goals as goal

pub returns-clause-none : goal.returns-clause-none
returns-clause-none c = checked_has_none c.a_constraint_has_one_cover.ensures c.window_separates_unless_ambiguous.ensures.none

pub returns-clause-one : goal.returns-clause-one
returns-clause-one c =
    one_fault c.a_constraint_has_one_cover.ensures c.least_words_outside_are_one.ensures.one c.least_ambiguous_pair_is_one.ensures.one
