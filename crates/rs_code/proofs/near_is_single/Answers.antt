use Rattle.rs_code.proofs.Words.{near_is_single}
use Rattle.rs_code.proofs.near_is_single.Goals as goal

pub returns : goal.returns
returns c = near_is_single
