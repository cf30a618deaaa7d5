use Rattle.std.proofs.Common.{◌≡◌, take}
use Rattle.label_graphs.specs.Refinement.{parents_of}
use Rattle.state_split.proofs.chain.parents_of_kept.Given as goal

abbrev pub invariant-loop-state : goal.invariant-loop-state
invariant-loop-state l = l.list.items ≡ parents_of l.parents (take l.state-index l.kept)
