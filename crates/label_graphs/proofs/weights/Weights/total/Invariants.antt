use Rattle.std.proofs.Common.{◌≡◌, ◌*◌, ◌^◌, ◌≤◌, take}
use Rattle.std.specs.List.{sum}
use Rattle.label_graphs.proofs.weights.Weights.total.Given as goal

abbrev pub invariant-loop-weight : goal.invariant-loop-weight
invariant-loop-weight l = record {
  is : l.total ≡ sum (take l.weight-index l.weight-items);
  small : l.total ≤ 2 ^ 32 * l.weight-index;
}
