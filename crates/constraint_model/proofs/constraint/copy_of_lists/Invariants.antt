use Rattle.std.proofs.Common.{◌≡◌, take}
use Rattle.constraint_model.proofs.constraint.copy_of_lists.Given as goal

abbrev pub invariant-loop-list : goal.invariant-loop-list
invariant-loop-list l = l.copies.items ≡ take l.list-index l.lists
