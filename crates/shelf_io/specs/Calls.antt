-- Calls that are counted, and those of them that fail by their number: the first call is number 1.
use Rattle.std.specs.Prelude.{◌≡◌, ℕ, ◌+◌, List, min, Contains}
use Rattle.shelf_io.specs.Faults.{Counted, greatest_count}

-- how many calls were made, and the numbers of those that fail
pub record Calls : Type 0 where
  pub made : ℕ
  pub failing : List ℕ

-- the number of the next call
abbrev pub next_number : Calls → ℕ
next_number calls = min (calls.made + 1) greatest_count

-- the next call is one of those that fail
abbrev pub FailsNext : Calls → Type 0
FailsNext calls = Contains calls.failing (next_number calls)

-- one more call was made, and the same numbers fail
pub record OneMore (old new : Calls) : Type 0 where
  pub made : Counted old.made new.made
  pub failing : new.failing ≡ old.failing
