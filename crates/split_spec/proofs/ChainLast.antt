-- The last graph of a chain: its edges are edges of the sink, and it looks as far ahead as its rounds do.
use Rattle.std.proofs.Common.{ℕ, List, sym, subst}
use Rattle.label_graphs.specs.Refinement.{KeepsEdges}
use Rattle.split_spec.specs.Weighted.{WeightedData}
use Rattle.split_spec.specs.Chain.{ChainData, IsChain}
use Rattle.split_spec.specs.Window.{HasWindow}
use Rattle.split_spec.proofs.Given.{ComposedLaw}
use Rattle.split_spec.proofs.PartGraph.{IsPart, part_keeps, part_window}

-- the last graph is that of the kept states
pub last_part : (n : ℕ) (g : WeightedData) (chain : ChainData) (is : IsChain n g chain) → IsPart is.end.rows chain.kept chain.last
last_part n g chain is = record { order = is.order; graph = is.graph; size = is.size; edges = is.edges }

-- what the end of the rounds keeps of the sink the last graph keeps
pub last_keeps : ComposedLaw → (n : ℕ) (g : WeightedData) (chain : ChainData) (is : IsChain n g chain)
    → KeepsEdges is.end.rows g.rows is.end_parents → KeepsEdges chain.last g.rows chain.parents
last_keeps composed n g chain is keeps =
    subst (λ (ps : List ℕ). KeepsEdges chain.last g.rows ps) (sym is.parents)
    (composed chain.last is.end.rows g.rows chain.kept is.end_parents (sym is.size) is.graph.targets
    (part_keeps is.end.rows chain.last chain.kept (last_part n g chain is)) keeps)

-- what tells an edge at the end of the rounds tells it in the last graph
pub last_window : (n : ℕ) (g : WeightedData) (chain : ChainData) (is : IsChain n g chain) (a r : ℕ) → HasWindow is.end.rows a r → HasWindow chain.last a r
last_window n g chain is a r = part_window is.end.rows chain.last chain.kept (last_part n g chain is) a r
