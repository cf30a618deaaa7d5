-- The new numbers of states that pass a test, and rows under them.
use Rattle.std.specs.Prelude.{◌≡◌, ℕ, ◌<◌, Bool, false, List, [], length, map, slice_index, slice_index_or, filter}
use Rattle.std.specs.List.{range_with_len}
use Rattle.label_graphs.specs.Graph.{EdgeData}

-- the states below n that pass, in ascending order
abbrev pub passing : (ℕ → Bool) → ℕ → List ℕ
passing test n = filter test (range_with_len 0 n)

-- how many they are, which is the new number of n
abbrev pub rank : (ℕ → Bool) → ℕ → ℕ
rank test n = length (passing test n)

abbrev pub is_marked : List Bool → ℕ → Bool
is_marked marks state = slice_index_or marks state false

-- the new numbers of the first n states
pub record AreRanks (test : ℕ → Bool) (n : ℕ) (numbers : List ℕ) : Type 0 where
  pub size : length numbers ≡ n
  pub each : (state : ℕ) → state < n → slice_index numbers state ≡ rank test state

-- the edges to states that pass, with new numbers
abbrev pub renumbered : (ℕ → Bool) → List EdgeData → List EdgeData
renumbered test row = map (λ e. record { block = e.block; to = rank test e.to }) (filter (λ e. test e.to) row)

-- the rows of the first n states that pass
abbrev pub kept_rows : (ℕ → Bool) → List (List EdgeData) → ℕ → List (List EdgeData)
kept_rows test rows n = map (λ state. renumbered test (slice_index_or rows state [])) (passing test n)
