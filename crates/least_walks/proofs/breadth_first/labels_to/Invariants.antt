use Rattle.std.proofs.Common.{◌≡◌, ℕ, List, ◌<◌, ◌++◌, length, reverse}
use Rattle.least_walks.specs.inside.Found.{IsChain, walk_to}
use Rattle.least_walks.proofs.breadth_first.labels_to.Given as goal

abbrev pub invariant-loop-at : goal.invariant-loop-at
invariant-loop-at l = record {
  inside : l.at < length l.found;
  walk : (walks : List (List ℕ)) → IsChain l.found walks → walk_to walks l.place ≡ walk_to walks l.at ++ reverse l.labels.items;
}

abbrev pub decreases-loop-at : goal.decreases-loop-at
decreases-loop-at l = l.at
