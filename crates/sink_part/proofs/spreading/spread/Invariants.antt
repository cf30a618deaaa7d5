use Rattle.std.proofs.Common.{◌≡◌, ◌*◌, ◌^◌, ◌≤◌, map, take}
use Rattle.std.specs.List.{sum, range_with_len}
use Rattle.label_graphs.specs.Power.{edge_count}
use Rattle.label_graphs.specs.Vector.{target_sum}
use Rattle.sink_part.proofs.spreading.spread.Given as goal

abbrev pub invariant-loop-state : goal.invariant-loop-state
invariant-loop-state l = record {
  is : l.total ≡ sum (map (λ state. target_sum l.graph l.weights state) (range_with_len 0 l.state));
  small : l.total ≤ 2 ^ 32 * edge_count (take l.state l.graph);
}
