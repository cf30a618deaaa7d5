use Rattle.least_walks.specs.Graph.{AreArcsBelow}
use Rattle.min_cover.specs.inside.Pairs.{pair_graph}
use Rattle.min_cover.proofs.pairs.PairsImplicitGraph.arcs_of.Given as goal

abbrev pub invariant-loop-symbol : goal.invariant-loop-symbol
invariant-loop-symbol l = AreArcsBelow (pair_graph l.self) l.node l.symbol l.room.items
