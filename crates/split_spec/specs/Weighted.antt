-- Graphs with a weight for each state, of whose states the states of a code are made.
use Rattle.std.specs.Prelude.{◌≡◌, ℕ, ◌<◌, List, length, All}
use Rattle.label_graphs.specs.Graph.{EdgeData, IsGraph}
use Rattle.label_graphs.specs.Reach.{IsReached}
use Rattle.label_graphs.specs.Vector.{MeetsInequality, target_sum}

pub record WeightedData : Type 0 where
  pub rows : List (List EdgeData)
  pub weights : List ℕ

-- each state has a weight of at least 1
pub record HasPositiveWeights (g : WeightedData) : Type 0 where
  pub graph : IsGraph g.rows
  pub size : length g.weights ≡ length g.rows
  pub positive : All (λ weight. 0 < weight) g.weights

-- these are an approximate eigenvector
pub record IsWeighted (n : ℕ) (g : WeightedData) : Type 0 where
  pub weights : HasPositiveWeights g
  pub inequality : MeetsInequality (target_sum g.rows) n g.weights

-- each state leads to each
abbrev pub IsIrreducible : List (List EdgeData) → Type 0
IsIrreducible rows = (from to : ℕ) → from < length rows → to < length rows → IsReached rows from to
