-- Classes of states, numbered by their first members, and their refinement.
use Rattle.std.specs.Prelude.{◌≡◌, ◌≢◌, ◌↔◌, ℕ, ◌<◌, ◌≤◌, List, [], length, map, slice_index, slice_index_or, Option, Some}
use Rattle.std.specs.Global.{Vec}
use Rattle.min_cover.specs.inside.Machine.{IsStable, IsTold}
use Rattle.min_cover.specs.inside.Search.{IsByFirst}
use Rattle.min_cover.specs.inside.Found.{next_in}

-- the rows of all states as plain lists, and the places of a row
abbrev pub rows_of : List (Vec (Option ℕ)) → List (List (Option ℕ))
rows_of rows = map (λ row. row.items) rows

abbrev pub width_of : List (List (Option ℕ)) → ℕ
width_of rows = length (slice_index_or rows 0 [])

-- Rows of at most 4,096 states, with a place for each symbol, whose numbers are of states.
pub record IsTable (alphabet : ℕ) (rows : List (List (Option ℕ))) : Type 0 where
  pub few : length rows ≤ 4096
  pub width : (i : ℕ) → i < length rows → length (slice_index_or rows i []) ≡ alphabet
  pub closed : (i symbol t : ℕ) → i < length rows → next_in rows i symbol ≡ Some t → t < length rows

-- The first states have the numbers of their signs among the keys, in the order in which these came.
pub record IsNumberedSoFar (sign : ℕ → List ℕ) (keys : List (List ℕ)) (of firsts : List ℕ) : Type 0 where
  pub size : length firsts ≡ length keys
  pub by_first : IsByFirst (length of) (slice_index of) (length keys) (slice_index firsts)
  pub stands : (q : ℕ) → q < length of → slice_index_or keys (slice_index of q) [] ≡ sign q
  pub different : (a b : ℕ) → a < b → b < length keys → slice_index_or keys a [] ≢ slice_index_or keys b []

-- States are in one class exactly where their signs are equal.
pub record IsClassedBy (sign : ℕ → List ℕ) (count : ℕ) (of firsts : List ℕ) : Type 0 where
  pub size : length of ≡ count
  pub by_first : IsByFirst count (slice_index of) (length firsts) (slice_index firsts)
  pub signs : (q r : ℕ) → q < count → r < count → (slice_index of q ≡ slice_index of r) ↔ (sign q ≡ sign r)

-- States of two classes are told apart by a word.
pub record IsToldApart (step : ℕ → ℕ → Option ℕ) (count : ℕ) (of firsts : List ℕ) : Type 0 where
  pub size : length of ≡ count
  pub by_first : IsByFirst count (slice_index of) (length firsts) (slice_index firsts)
  pub told : IsTold step count (slice_index of)

-- And those of one class read the same words.
pub record IsRefined (step : ℕ → ℕ → Option ℕ) (count : ℕ) (of firsts : List ℕ) : Type 0 where
  pub size : length of ≡ count
  pub by_first : IsByFirst count (slice_index of) (length firsts) (slice_index firsts)
  pub told : IsTold step count (slice_index of)
  pub stable : IsStable step count (slice_index of)
