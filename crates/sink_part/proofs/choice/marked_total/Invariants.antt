use Rattle.std.proofs.Common.{◌≡◌, ◌*◌, ◌^◌, ◌≤◌}
use Rattle.label_graphs.specs.Sink.{total_weight}
use Rattle.label_graphs.specs.inside.Numbers.{is_marked, passing}
use Rattle.sink_part.proofs.choice.marked_total.Given as goal

abbrev pub invariant-loop-state : goal.invariant-loop-state
invariant-loop-state l = record {
  is : l.total ≡ total_weight l.weights (passing (is_marked l.marks) l.state);
  small : l.total ≤ 2 ^ 32 * l.state;
}
