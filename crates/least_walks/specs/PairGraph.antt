-- Where the arcs of a graph lead whose labels stand for two words each.
use Rattle.std.specs.Prelude.{ℕ, List}
use Rattle.least_walks.specs.declared.pair_graph.Arcs.{Arcs}
use Rattle.least_walks.specs.declared.pair_graph.Arcs.TheVariants.{All, Unlike}
use Rattle.least_walks.specs.Graph.{Graph}
use Rattle.least_walks.specs.UnlikeWalk.{HasUnlikeWords}
use Rattle.least_walks.specs.NodeSet.{IsIn}

-- the label is one of those that are meant
abbrev pub IsMeant : Arcs → ℕ → ℕ → Type 0
IsMeant All words label = Unit {0}
IsMeant Unlike words label = HasUnlikeWords words label

-- some arc that is meant leads from the node into the set
abbrev pub LeadsInto : Graph → ℕ → Arcs → ℕ → List ℕ → Type 0
LeadsInto g words arcs node set = (label to : ℕ) × g.arc node label to × IsMeant arcs words label × IsIn set to

-- some arc leads to the node
abbrev pub IsTarget : Graph → ℕ → Type 0
IsTarget g node = (from label : ℕ) × g.arc from label node
