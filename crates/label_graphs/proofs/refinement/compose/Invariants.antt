use Rattle.std.proofs.Common.{◌≡◌, map, take}
use Rattle.label_graphs.specs.Refinement.{parents_of}
use Rattle.label_graphs.proofs.refinement.compose.Given as goal

abbrev pub invariant-loop-state : goal.invariant-loop-state
invariant-loop-state g l =
    map (g.C.Name.number) l.parents.items ≡ parents_of l.coarse (take l.state l.fine)
