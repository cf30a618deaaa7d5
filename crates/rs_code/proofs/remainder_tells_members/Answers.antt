use Rattle.rs_code.proofs.Remainders.{remainder_tells_members}
use Rattle.rs_code.proofs.remainder_tells_members.Goals as goal

pub returns : goal.returns
returns c = remainder_tells_members
