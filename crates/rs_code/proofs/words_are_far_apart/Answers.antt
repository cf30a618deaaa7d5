use Rattle.rs_code.proofs.Words.{words_are_far_apart}
use Rattle.rs_code.proofs.words_are_far_apart.Goals as goal

pub returns : goal.returns
returns c = words_are_far_apart
