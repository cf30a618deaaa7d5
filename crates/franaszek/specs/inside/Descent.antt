-- Sums that are kept beside numbers that fall.
use Rattle.std.specs.Prelude.{◌≡◌, ℕ, ◌<◌, ◌≤◌, List, length, slice_index, All}
use Rattle.label_graphs.specs.Vector.{IsSolution, row_sum}

-- for each state the sum over its row
pub record AreRowSums (matrix : List (List ℕ)) (x sums : List ℕ) : Type 0 where
  pub size : length sums ≡ length matrix
  pub each : (state : ℕ) → state < length matrix → slice_index sums state ≡ row_sum matrix x state

-- numbers within the bound, none of them below that of a solution, with their sums
pub record AreAbove (matrix : List (List ℕ)) (n bound : ℕ) (x sums : List ℕ) : Type 0 where
  pub size : length x ≡ length matrix
  pub within : All (λ weight. weight ≤ bound) x
  pub kept : AreRowSums matrix x sums
  pub above : (other : List ℕ) → IsSolution (row_sum matrix) (length matrix) n bound other
      → (state : ℕ) → slice_index other state ≤ slice_index x state
