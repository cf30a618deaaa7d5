use Rattle.std.proofs.Common.{◌-◌, length}
use Rattle.std.specs.List.{sum}
use Rattle.split_spec.specs.Chain.{RoundsLead}
use Rattle.state_split.specs.Views.{rounds_data, weighted}
use Rattle.state_split.proofs.chain.all_rounds.Given as goal

abbrev pub invariant-loop-alloc : goal.invariant-loop-alloc
invariant-loop-alloc l =
    RoundsLead l.n (weighted l.sink.graph l.sink.weights) (rounds_data l.rounds.items) (weighted l.stage.graph l.stage.weights) l.stage.parents

abbrev pub decreases-loop-alloc : goal.decreases-loop-alloc
decreases-loop-alloc l = sum l.sink.weights - length l.rounds.items
