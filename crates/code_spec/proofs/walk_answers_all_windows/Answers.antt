use Rattle.code_spec.proofs.DecoderLaws.{decoded_by_walk}
use Rattle.code_spec.proofs.walk_answers_all_windows.Goals as goal

pub returns : goal.returns
returns c = decoded_by_walk
