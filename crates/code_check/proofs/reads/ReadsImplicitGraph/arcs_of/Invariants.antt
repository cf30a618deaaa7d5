use Rattle.least_walks.specs.Graph.{AreArcsBelow}
use Rattle.code_check.specs.inside.Reads.{graph_of}
use Rattle.code_check.proofs.reads.ReadsImplicitGraph.arcs_of.Given as goal

abbrev pub invariant-loop-word : goal.invariant-loop-word
invariant-loop-word l = AreArcsBelow (graph_of l.self) l.node l.word l.room.items
