-- The run of a state: the edges that one of its two parts takes where it is split.
use Rattle.std.specs.Prelude.{◌≡◌, ◌↔◌, ◌⊎◌, ℕ, ◌+◌, ◌*◌, ◌<◌, ◌≤◌, List, ◌++◌, length, map, take, slice_index, Contains}
use Rattle.std.specs.List.{sum}
use Rattle.symbol_base.specs.Ascending.{IsAscending}
use Rattle.label_graphs.specs.Graph.{EdgeData, IsEdgeBefore}

-- by the weight of the target, then by block, then by target
abbrev pub IsLighter : List ℕ → EdgeData → EdgeData → Type 0
IsLighter x e f =
    (slice_index x e.to < slice_index x f.to) ⊎ ((slice_index x e.to ≡ slice_index x f.to) × IsEdgeBefore e f)

-- the same edges as in the row, those to the lightest targets first
pub record IsLightestFirst (x : List ℕ) (row ordered : List EdgeData) : Type 0 where
  pub order : IsAscending (IsLighter x) ordered
  pub same : (e : EdgeData) → Contains ordered e ↔ Contains row e

-- the weights of the targets of edges, added up
abbrev pub weight_of : List ℕ → List EdgeData → ℕ
weight_of x edges = sum (map (λ e. slice_index x e.to) edges)

-- the targets of the first i and of the first j edges weigh the same but for a multiple of n
abbrev pub AgreeAt : ℕ → List ℕ → List EdgeData → ℕ → ℕ → Type 0
AgreeAt n x edges i j = (y : ℕ) × (weight_of x (take j edges) ≡ weight_of x (take i edges) + n * y)

-- Of a row's edges, those to the lightest targets first, the run is the first that weighs a multiple of n, which is
-- n * y: it ends within the first n edges, and no two sums agree that end earlier.
pub record IsRun (n : ℕ) (x : List ℕ) (row run : List EdgeData) (y : ℕ) : Type 0 where
  pub before : List EdgeData
  pub behind : List EdgeData
  pub order : IsLightestFirst x row (before ++ (run ++ behind))
  pub some : 0 < length run
  pub early : length before + length run ≤ n
  pub weight : weight_of x run ≡ n * y
  pub first : (i j : ℕ) → i < j → j < length before + length run → AgreeAt n x (before ++ (run ++ behind)) i j → ⊥
