use Rattle.constraint_spec.proofs.Deciding.{Decides-may_follow}
use Rattle.constraint_spec.proofs.what_may_follow_is_tested.Goals as goal

pub returns : goal.returns
returns c = Decides-may_follow
