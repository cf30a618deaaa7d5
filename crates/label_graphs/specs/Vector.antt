-- Approximate eigenvectors: numbers for the states of a graph, of which a state's edges lead to enough.
use Rattle.std.specs.Prelude.{◌≡◌, ℕ, ◌+◌, ◌*◌, ◌<◌, ◌≤◌, List, [], ◌∷◌, length, map, All, slice_index, slice_index_or}
use Rattle.std.specs.List.{sum}
use Rattle.label_graphs.specs.Graph.{EdgeData}

-- the numbers of the targets of a state's edges, added up
abbrev pub target_sum : List (List EdgeData) → List ℕ → ℕ → ℕ
target_sum rows x state = sum (map (λ e. slice_index x e.to) (slice_index_or rows state []))

-- the products of the items at the same places, added up
abbrev pub product_sum : List ℕ → List ℕ → ℕ
product_sum [] x = 0
product_sum (entry ∷ entries) [] = 0
product_sum (entry ∷ entries) (w ∷ x) = entry * w + product_sum entries x

-- the numbers that a row of the matrix counts, added up as often as it counts them
abbrev pub row_sum : List (List ℕ) → List ℕ → ℕ → ℕ
row_sum matrix x state = product_sum (slice_index_or matrix state []) x

-- What each state's sum gives is at least n times the state's own number: A x ≥ n x. A sum may be that of a
-- graph, target_sum rows, or that of a matrix, row_sum matrix.
abbrev pub MeetsInequality : (List ℕ → ℕ → ℕ) → ℕ → List ℕ → Type 0
MeetsInequality sum_of n x = (state : ℕ) → state < length x → n * slice_index x state ≤ sum_of x state

-- A number for each of count states, each at most the bound, that meet the inequality. All may be 0.
pub record IsSolution (sum_of : List ℕ → ℕ → ℕ) (count n bound : ℕ) (x : List ℕ) : Type 0 where
  pub size : length x ≡ count
  pub within : All (λ weight. weight ≤ bound) x
  pub inequality : MeetsInequality sum_of n x

-- no solution has a greater number at any state
pub record IsGreatest (sum_of : List ℕ → ℕ → ℕ) (count n bound : ℕ) (x : List ℕ) : Type 0 where
  pub solution : IsSolution sum_of count n bound x
  pub greatest : (other : List ℕ) → IsSolution sum_of count n bound other
      → (state : ℕ) → slice_index other state ≤ slice_index x state

-- some state has a number above 0
abbrev pub IsNonzero : List ℕ → Type 0
IsNonzero x = (state : ℕ) × (0 < slice_index x state)

-- An approximate eigenvector within the bound: a solution that is not all 0.
pub record IsVector (sum_of : List ℕ → ℕ → ℕ) (count n bound : ℕ) (x : List ℕ) : Type 0 where
  pub solution : IsSolution sum_of count n bound x
  pub nonzero : IsNonzero x

-- the least bound, of those from 1 on, within which there is an approximate eigenvector
pub record IsLeastBound (sum_of : List ℕ → ℕ → ℕ) (count n bound : ℕ) : Type 0 where
  pub one : 1 ≤ bound
  pub some : (x : List ℕ) × IsVector sum_of count n bound x
  pub least : (lower : ℕ) → lower < bound → (x : List ℕ) → IsVector sum_of count n lower x → ⊥
