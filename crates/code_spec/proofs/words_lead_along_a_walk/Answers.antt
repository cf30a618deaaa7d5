use Rattle.code_spec.proofs.StepLaws.{walks_of_words, after_inside}
use Rattle.code_spec.proofs.words_lead_along_a_walk.Goals as goal

pub returns-clause-walk : goal.returns-clause-walk
returns-clause-walk c = walks_of_words

pub returns-clause-inside : goal.returns-clause-inside
returns-clause-inside c = after_inside
