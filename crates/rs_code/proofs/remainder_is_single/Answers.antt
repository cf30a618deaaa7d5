use Rattle.rs_code.proofs.Remainders.{remainder_is_single}
use Rattle.rs_code.proofs.remainder_is_single.Goals as goal

pub returns : goal.returns
returns c = remainder_is_single
