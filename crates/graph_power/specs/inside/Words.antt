-- The words that can be read from the states of a cover, listed and counted symbol by symbol.
use Rattle.std.specs.Prelude.{◌≡◌, ℕ, zero, suc, ◌+◌, ◌*◌, ◌<◌, ◌≤◌, List, [], ◌∷◌, length, map, nat_eq, if◌then◌else◌, slice_index, slice_index_or, All}
use Rattle.std.specs.List.{sum, flat_map, range_with_len}
use Rattle.label_graphs.specs.Graph.{EdgeData}
use Rattle.label_graphs.specs.Cover.{CoverData}
use Rattle.label_graphs.specs.Matrix.{entry_at}

-- the blocks that go on from this one by q symbols, read from this state, and where they lead
abbrev pub words_from : CoverData → ℕ → ℕ → ℕ → List EdgeData
words_from cover zero block at = record { block = block; to = at } ∷ []
words_from cover (suc q) block at =
    flat_map (λ e. words_from cover q (block * cover.alphabet + e.block) e.to) (slice_index_or cover.graph at [])

-- the words of q symbols from each state
abbrev pub power_rows : CoverData → ℕ → List (List EdgeData)
power_rows cover q = map (λ state. words_from cover q 0 state) (range_with_len 0 (length cover.graph))

-- what the targets of the edges give, added up
abbrev pub target_total : (ℕ → ℕ) → List EdgeData → ℕ
target_total f row = sum (map (λ e. f e.to) row)

-- how many words of q symbols can be read from a state
abbrev pub word_count : List (List EdgeData) → ℕ → ℕ → ℕ
word_count rows zero from = 1
word_count rows (suc q) from = target_total (word_count rows q) (slice_index_or rows from [])

-- how many of them lead to this state
abbrev pub words_to : List (List EdgeData) → ℕ → ℕ → ℕ → ℕ
words_to rows zero to from = if nat_eq from to then 1 else 0
words_to rows (suc q) to from = target_total (words_to rows q to) (slice_index_or rows from [])

-- a number for each state: how many words of q symbols can be read from there
pub record AreWordCounts (rows : List (List EdgeData)) (q : ℕ) (counts : List ℕ) : Type 0 where
  pub size : length counts ≡ length rows
  pub each : (from : ℕ) → from < length rows → slice_index counts from ≡ word_count rows q from

-- such numbers for words of each length up to q symbols
pub record AreCountedTo (rows : List (List EdgeData)) (q : ℕ) (counts : List (List ℕ)) : Type 0 where
  pub size : length counts ≡ suc q
  pub each : (i : ℕ) → i ≤ q → AreWordCounts rows i (slice_index_or counts i [])

-- a row for each state, with a number for each state: how many words of q symbols lead from the one to the other
pub record AreCounts (rows : List (List EdgeData)) (q : ℕ) (counts : List (List ℕ)) : Type 0 where
  pub size : length counts ≡ length rows
  pub square : All (λ row. length row ≡ length rows) counts
  pub each : (from to : ℕ) → from < length rows → to < length rows
      → entry_at counts from to ≡ words_to rows q to from

-- as many entries in each row as there are rows, and each at most the bound
pub record IsSquareWithin (bound : ℕ) (counts : List (List ℕ)) : Type 0 where
  pub square : All (λ row. length row ≡ length counts) counts
  pub small : All (λ row. All (λ count. count ≤ bound) row) counts

-- the rows of the edges' targets, added up place by place
pub record AreAddedRows (row : List EdgeData) (counts : List (List ℕ)) (sums : List ℕ) : Type 0 where
  pub size : length sums ≡ length counts
  pub each : (to : ℕ) → to < length counts
      → slice_index sums to ≡ target_total (λ from. entry_at counts from to) row
