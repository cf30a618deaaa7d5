-- What the steps of elimination do to a matrix, which is the list of its rows.
use Rattle.std.specs.Prelude.{◌≡◌, ◌≢◌, ℕ, ◌+◌, ◌<◌, ◌≤◌, ◌↔◌, ◌==◌, if◌then◌else◌, List, [], ◌∷◌, length, slice_index, slice_index_or}
use Rattle.gf256.specs.Field.{IsElement, plus, times}
use Rattle.gf256.specs.Linear.{Annihilates}

-- a row plus a multiple of another row of its length
abbrev pub plus_multiple : List ℕ → ℕ → List ℕ → List ℕ
plus_multiple [] factor other = []
plus_multiple (x ∷ xs) factor [] = []
plus_multiple (x ∷ xs) factor (y ∷ ys) = plus x (times factor y) ∷ plus_multiple xs factor ys

abbrev pub matrix_row : List (List ℕ) → ℕ → List ℕ
matrix_row rows i = slice_index_or rows i []

abbrev pub entry : List (List ℕ) → ℕ → ℕ → ℕ
entry rows i j = slice_index (matrix_row rows i) j

-- each place holds an element; a place past the end counts as 0
abbrev pub AreElements : List ℕ → Type 0
AreElements xs = (k : ℕ) → IsElement (slice_index xs k)

abbrev pub HasElements : List (List ℕ) → Type 0
HasElements rows = (i : ℕ) → AreElements (matrix_row rows i)

-- each other row has taken in the multiple of the row at `column` that its entry there names
pub record ClearsColumn (column : ℕ) (old new : List (List ℕ)) : Type 0 where
  pub same_length : length new ≡ length old
  pub pivot : matrix_row new column ≡ matrix_row old column
  pub others : (i : ℕ) → i < length old → i ≢ column → matrix_row new i ≡ plus_multiple (matrix_row old i) (entry old i column) (matrix_row old column)
  pub widths : (i : ℕ) → i < length old → i ≢ column → length (matrix_row old i) ≡ length (matrix_row old column)
  pub elements : (i : ℕ) → i < length old → i ≢ column → AreElements (matrix_row old i)

-- the two matrices annihilate the same vectors
abbrev pub SameNullSpace : List (List ℕ) → List (List ℕ) → Type 0
SameNullSpace old new = (v : List ℕ) → Annihilates old v ↔ Annihilates new v

-- each column below c has a 1 in the row of its own number and a 0 in each other row
abbrev pub HasUnitColumns : ℕ → List (List ℕ) → Type 0
HasUnitColumns c rows = (i j : ℕ) → i < length rows → j < c → entry rows i j ≡ (if i == j then 1 else 0)

-- column c is 0 from row c on
abbrev pub IsZeroBelow : ℕ → List (List ℕ) → Type 0
IsZeroBelow c rows = (i : ℕ) → c ≤ i → entry rows i c ≡ 0

-- the vector has the entries of a column at its front, and is as it was behind them
pub record CopiesColumn (column : ℕ) (rows : List (List ℕ)) (old new : List ℕ) : Type 0 where
  pub same_length : length new ≡ length old
  pub front : (i : ℕ) → i < length rows → slice_index new i ≡ entry rows i column
  pub rest : (i : ℕ) → length rows ≤ i → slice_index new i ≡ slice_index old i

-- column c has become a unit column, and the null space is the same
pub record Eliminates (c : ℕ) (old new : List (List ℕ)) : Type 0 where
  pub null_space : SameNullSpace old new
  pub units : HasUnitColumns c old → HasUnitColumns (c + 1) new
  pub elements_before : HasElements old
  pub elements : HasElements new
