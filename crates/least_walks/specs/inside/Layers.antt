-- From which nodes walks of each length begin, with unlike words at the place that is counted from the end.
use Rattle.std.specs.Prelude.{◌≡◌, ℕ, ◌<◌, ◌≤◌, ◌⊎◌, List, [], ◌∷◌, length, get_or}
use Rattle.least_walks.specs.declared.Arc.{Arc}
use Rattle.least_walks.specs.declared.pair_graph.Arcs.{Arcs}
use Rattle.least_walks.specs.Graph.{Graph, no_arc}
use Rattle.symbol_base.specs.Word.{IsSmallerAtFirst}
use Rattle.least_walks.specs.UnlikeWalk.{HasUnlikeWords}
use Rattle.least_walks.specs.NodeSet.{IsIn}
use Rattle.least_walks.specs.PairGraph.{IsTarget, LeadsInto}

-- the labels are those of a walk, and the one with so many labels behind it has unlike words
abbrev pub IsUnlikeFromEnd : Graph → ℕ → ℕ → ℕ → List ℕ → Type 0
IsUnlikeFromEnd g words ahead v [] = Unit {0}
IsUnlikeFromEnd g words ahead v (label ∷ labels) =
    (u : ℕ) × g.arc v label u × (length labels ≡ ahead → HasUnlikeWords words label) × IsUnlikeFromEnd g words ahead u labels

abbrev pub HasUnlikeWalk : Graph → ℕ → ℕ → ℕ → ℕ → Type 0
HasUnlikeWalk g words ahead len v = (labels : List ℕ) × (length labels ≡ len) × IsUnlikeFromEnd g words ahead v labels

-- of all such walks of this length from this node the least: the smaller at the first difference
pub record IsLeastFrom (g : Graph) (words ahead len v : ℕ) (labels : List ℕ) : Type 0 where
  pub count : length labels ≡ len
  pub walk : IsUnlikeFromEnd g words ahead v labels
  pub least : (other : List ℕ) → length other ≡ len → IsUnlikeFromEnd g words ahead v other
      → (labels ≡ other) ⊎ IsSmallerAtFirst labels other

-- and no node before this one has such a walk of this length
pub record IsLeastOfAll (g : Graph) (words ahead len v : ℕ) (labels : List ℕ) : Type 0 where
  pub inside : v < g.nodes
  pub here : IsLeastFrom g words ahead len v labels
  pub first : (u : ℕ) → u < v → HasUnlikeWalk g words ahead len u → ⊥

-- the set tells of each node that an arc leads to whether it has a walk of this length
pub record IsLayer (g : Graph) (words ahead len : ℕ) (layer : List ℕ) : Type 0 where
  pub inside : (v : ℕ) → IsTarget g v → v < g.nodes
  pub room : g.nodes ≤ length layer
  pub has : (v : ℕ) → v < g.nodes → IsIn layer v → HasUnlikeWalk g words ahead len v
  pub all : (v : ℕ) → v < g.nodes → IsTarget g v → HasUnlikeWalk g words ahead len v → IsIn layer v

abbrev pub layer_of : List (List ℕ) → ℕ → List ℕ
layer_of layers k = get_or layers k []

-- the layers of the lengths below n
pub record AreLayers (g : Graph) (words ahead n : ℕ) (layers : List (List ℕ)) : Type 0 where
  pub count : length layers ≡ n
  pub each : (k : ℕ) → k < n → IsLayer g words ahead k (layer_of layers k)

-- from each node of the set some arc that is meant leads into the layer, and the set holds each candidate of the first
-- n nodes from which one does
pub record IsPreceding (g : Graph) (words : ℕ) (arcs : Arcs) (candidates layer : List ℕ) (n : ℕ) (set : List ℕ) : Type 0 where
  pub room : g.nodes ≤ length set
  pub has : (v : ℕ) → IsIn set v → LeadsInto g words arcs v layer
  pub all : (v : ℕ) → v < n → IsIn candidates v → LeadsInto g words arcs v layer → IsIn set v

-- a walk can begin with this arc, with so many arcs behind it
pub record IsUsable (words ahead left : ℕ) (layer : List ℕ) (arc : Arc) : Type 0 where
  pub goes_on : IsIn layer arc.to
  pub unlike : left ≡ ahead → HasUnlikeWords words arc.label

pub record IsFirstUsable (words ahead left : ℕ) (layer : List ℕ) (arcs : List Arc) (arc : Arc) : Type 0 where
  pub place : ℕ
  pub below : place < length arcs
  pub is : get_or arcs place no_arc ≡ arc
  pub usable : IsUsable words ahead left layer arc
  pub first : (m : ℕ) → m < place → IsUsable words ahead left layer (get_or arcs m no_arc) → ⊥
