use Rattle.std.proofs.Common.{◌≡◌}
use Rattle.state_split.specs.Views.{edges_data}
use Rattle.state_split.specs.inside.Agreeing.{HasSeen, residue_of}
use Rattle.state_split.proofs.run.first_agreeing.Given as goal

abbrev pub invariant-loop-at : goal.invariant-loop-at
invariant-loop-at l =
    (l.residue ≡ residue_of l.n l.weights (edges_data l.ordered) l.at)
    × HasSeen l.n l.weights (edges_data l.ordered) l.at l.seen
