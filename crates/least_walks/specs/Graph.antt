-- Graphs with numbers as labels of their arcs.
use Rattle.std.specs.Prelude.{◌≡◌, ℕ, ◌<◌, List, length, get_or}
use Rattle.least_walks.specs.declared.Arc.{Arc}

-- The nodes are the numbers below their count. arc v label u: an arc leads from v to u under the label.
pub record Graph : Type 1 where
  pub nodes : ℕ
  pub arc : ℕ → ℕ → ℕ → Type 0

abbrev pub no_arc : Arc
no_arc = record { label = 0; to = 0 }

-- the list holds exactly the arcs of the node, by ascending label, so no two of them have the same one
pub record AreArcsOf (g : Graph) (v : ℕ) (arcs : List Arc) : Type 0 where
  pub each : (k : ℕ) → k < length arcs → g.arc v (get_or arcs k no_arc).label (get_or arcs k no_arc).to
  pub all : (label u : ℕ) → g.arc v label u → (k : ℕ) × (k < length arcs) × (get_or arcs k no_arc ≡ record { label = label; to = u })
  pub ascending : (k m : ℕ) → k < m → m < length arcs → (get_or arcs k no_arc).label < (get_or arcs m no_arc).label
  pub inside : (k : ℕ) → k < length arcs → (get_or arcs k no_arc).to < g.nodes

-- the list holds exactly the arcs of the node whose labels are below the bound, in this order
pub record AreArcsBelow (g : Graph) (v bound : ℕ) (arcs : List Arc) : Type 0 where
  pub below : (k : ℕ) → k < length arcs → (get_or arcs k no_arc).label < bound
  pub each : (k : ℕ) → k < length arcs → g.arc v (get_or arcs k no_arc).label (get_or arcs k no_arc).to
  pub all : (label u : ℕ) → label < bound → g.arc v label u → (k : ℕ) × (k < length arcs) × (get_or arcs k no_arc ≡ record { label = label; to = u })
  pub ascending : (k m : ℕ) → k < m → m < length arcs → (get_or arcs k no_arc).label < (get_or arcs m no_arc).label
  pub inside : (k : ℕ) → k < length arcs → (get_or arcs k no_arc).to < g.nodes
