use Rattle.code_spec.proofs.WalkLaws.{found_between, between_found}
use Rattle.code_spec.proofs.word_lies_between.Goals as goal

pub returns : goal.returns
returns c = λ code front block back word long. (found_between code front block back word long, between_found code front block back word long)
