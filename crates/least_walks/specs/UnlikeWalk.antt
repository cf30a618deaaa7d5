-- Walks of one length whose labels are pairs of words, with unlike words at one place.
use Rattle.std.specs.Prelude.{◌≡◌, ◌≢◌, ℕ, ◌+◌, ◌/◌, ◌%◌, ◌<◌, ◌⊎◌, List, length, get_or}
use Rattle.symbol_base.specs.Walk.{IsWalk}
use Rattle.symbol_base.specs.Word.{IsSmallerAtFirst}
use Rattle.least_walks.specs.Graph.{Graph}

-- a label stands for two of so many words: the first word times their number, and the second one
abbrev pub HasUnlikeWords : ℕ → ℕ → Type 0
HasUnlikeWords words label = label / words ≢ label % words

-- a walk from this node whose label with so many labels before it, and so many behind it, has unlike words
pub record IsUnlikeWalk (g : Graph) (words past ahead v : ℕ) (labels : List ℕ) : Type 0 where
  pub count : length labels ≡ past + 1 + ahead
  pub there : ℕ
  pub walk : IsWalk g.arc v labels there
  pub unlike : HasUnlikeWords words (get_or labels past 0)

-- no node before this one has such a walk, and of all from this node none is smaller at the first difference
pub record IsLeastUnlikeWalk (g : Graph) (words past ahead v : ℕ) (labels : List ℕ) : Type 0 where
  pub inside : v < g.nodes
  pub walk : IsUnlikeWalk g words past ahead v labels
  pub least : (other : List ℕ) → IsUnlikeWalk g words past ahead v other → (labels ≡ other) ⊎ IsSmallerAtFirst labels other
  pub first : (u : ℕ) (other : List ℕ) → u < v → IsUnlikeWalk g words past ahead u other → ⊥
