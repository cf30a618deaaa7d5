use Rattle.std.proofs.Common.{take}
use Rattle.state_split.specs.Views.{edges_data}
use Rattle.state_split.specs.inside.Parts.{ArePicked, IsTakenBy}
use Rattle.state_split.proofs.parts.edges_of_part.Given as goal

abbrev pub invariant-loop-edge : goal.invariant-loop-edge
invariant-loop-edge l =
    ArePicked (edges_data (take l.edge-index l.row)) (IsTakenBy l.part l.split.run) (edges_data l.edges.items)
