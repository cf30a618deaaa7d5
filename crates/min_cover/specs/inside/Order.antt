-- What an order of pairs in which arcs fall, but for those of cycles, tells of walks.
use Rattle.std.specs.Prelude.{◌≡◌, ℕ, ◌+◌, ◌<◌, ◌≤◌, ◌⊎◌, Bool, false, List, length, slice_index_or, Option}
use Rattle.symbol_base.specs.Walk.{IsWalk}
use Rattle.symbol_base.specs.Word.{IsBefore}
use Rattle.min_cover.specs.inside.Pairs.{Leads, HasWalk}
use Rattle.min_cover.specs.inside.Finishing.{number_at}

-- one more than the greatest value of where symbols lead, or 0 where none leads
pub record IsAbove (step : ℕ → ℕ → Option ℕ) (values : List ℕ) (here above : ℕ) : Type 0 where
  pub all : (symbol there : ℕ) → Leads step here symbol there → number_at values there < above
  pub some : (above ≡ 0) ⊎ ((symbol : ℕ) × (there : ℕ) × Leads step here symbol there × (number_at values there + 1 ≡ above))

-- the longest walk from here has so many symbols
pub record IsLongest (step : ℕ → ℕ → Option ℕ) (here n : ℕ) : Type 0 where
  pub has : HasWalk step here n
  pub most : (word : List ℕ) (there : ℕ) → IsWalk (Leads step) here word there → length word ≤ n

-- no arc leads from this place or a lower one to this place or a higher one
abbrev pub NoneSpans : (ℕ → ℕ → Option ℕ) → List ℕ → List ℕ → ℕ → Type 0
NoneSpans step finished places place = (i symbol there : ℕ) → i ≤ place → i < length finished
    → Leads step (number_at finished i) symbol there → number_at places there < place

-- places that aren't marked have no arc that spans them
abbrev pub AreSpanned : (ℕ → ℕ → Option ℕ) → List ℕ → List ℕ → List Bool → Type 0
AreSpanned step finished places spanned =
    (place : ℕ) → place < length spanned → slice_index_or spanned place false ≡ false → NoneSpans step finished places place

-- of the words that lead back to here this is the least
pub record IsLeastBack (step : ℕ → ℕ → Option ℕ) (here : ℕ) (word : List ℕ) : Type 0 where
  pub some : 0 < length word
  pub walk : IsWalk (Leads step) here word here
  pub least : (other : List ℕ) → 0 < length other → IsWalk (Leads step) here other here → (word ≡ other) ⊎ IsBefore word other
