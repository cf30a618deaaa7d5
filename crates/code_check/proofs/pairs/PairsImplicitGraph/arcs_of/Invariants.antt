use Rattle.std.proofs.Common.{◌*◌, ◌^◌}
use Rattle.least_walks.specs.Graph.{AreArcsBelow}
use Rattle.code_check.specs.inside.PairGraph.{pair_graph}
use Rattle.code_check.proofs.pairs.PairsImplicitGraph.arcs_of.Given as goal

abbrev pub invariant-loop-word : goal.invariant-loop-word
invariant-loop-word l = AreArcsBelow (pair_graph l.self) l.node (l.word * 2 ^ l.self.p) l.room.items
