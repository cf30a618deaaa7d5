use Rattle.std.proofs.Common.{subst}
use Rattle.label_graphs.specs.Cover.{CoverData, KeepsSymbols}
use Rattle.label_graphs.specs.Graph.{IsGraph}
use Rattle.graph_power.proofs.counting.of_no_symbol.Goals as goal

pub returns-clause-symbols : goal.returns-clause-symbols
returns-clause-symbols c = subst (λ (x : CoverData). KeepsSymbols x) c.cover.view_is c.cover.invariant

pub returns-clause-graph : goal.returns-clause-graph
returns-clause-graph c = subst (λ (x : CoverData). IsGraph x.graph) c.cover.view_is c.states-states.ensures.kept
