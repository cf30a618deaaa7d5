-- What a depth-first search of a machine on numbers keeps.
use Rattle.std.specs.Prelude.{◌≡◌, ◌≢◌, ℕ, ◌+◌, ◌*◌, ◌-◌, ◌<◌, ◌≤◌, ◌⊎◌, Bool, true, false, List, [], ◌∷◌, ◌++◌, length, slice_index_or, set, Option}
use Rattle.std.specs.List.{count_by, sum_by}
use Rattle.min_cover.specs.declared.finishing.Mark.{Mark}
use Rattle.min_cover.specs.declared.finishing.Mark.TheVariants.{New, OnPath, Finished}
use Rattle.min_cover.specs.declared.finishing.Visit.{Visit}
use Rattle.min_cover.specs.declared.finishing.Search.{Search}
use Rattle.min_cover.specs.inside.Pairs.{Leads, HasCycle}

pub record SearchData : Type 0 where
  pub marks : List Mark
  pub path : List Visit
  pub finished : List ℕ
  pub places : List ℕ
  pub cyclic : Bool

abbrev pub search_data : Search → SearchData
search_data s = record { marks = s.marks.items; path = s.path.items; finished = s.finished.items; places = s.places.items; cyclic = s.cyclic }

-- the search with one more visit at the end of its path
abbrev pub joined : SearchData → Visit → SearchData
joined s visit = record { marks = s.marks; path = s.path ++ visit ∷ []; finished = s.finished; places = s.places; cyclic = s.cyclic }

abbrev pub no_visit : Visit
no_visit = record { pair = 0; next = 0 }

abbrev pub mark_at : List Mark → ℕ → Mark
mark_at marks here = slice_index_or marks here New

abbrev pub pair_at : List Visit → ℕ → ℕ
pair_at path i = (slice_index_or path i no_visit).pair

abbrev pub next_at : List Visit → ℕ → ℕ
next_at path i = (slice_index_or path i no_visit).next

abbrev pub number_at : List ℕ → ℕ → ℕ
number_at numbers i = slice_index_or numbers i 0

-- The path is a walk. The symbols below `next` of what is on it are followed, but for the last ones, `due` in number,
-- of its end; those of what is finished are all followed. What a followed symbol leads to is finished, or comes next on
-- the path, or there is a cycle.
pub record IsSearch (step : ℕ → ℕ → Option ℕ) (count width due : ℕ) (s : SearchData) : Type 0 where
  pub marked : length s.marks ≡ count
  pub placed : length s.places ≡ count
  pub on_path : (i : ℕ) → i < length s.path → (pair_at s.path i < count) × (mark_at s.marks (pair_at s.path i) ≡ OnPath)
  pub within : (i : ℕ) → i < length s.path → next_at s.path i ≤ width
  pub different : (i j : ℕ) → i < j → j < length s.path → pair_at s.path i ≢ pair_at s.path j
  pub listed : (p : ℕ) → mark_at s.marks p ≡ OnPath → (i : ℕ) × (i < length s.path) × (pair_at s.path i ≡ p)
  pub done : (i : ℕ) → i < length s.finished
      → (number_at s.finished i < count) × (mark_at s.marks (number_at s.finished i) ≡ Finished) × (number_at s.places (number_at s.finished i) ≡ i)
  pub counted : (p : ℕ) → mark_at s.marks p ≡ Finished
      → (number_at s.places p < length s.finished) × (number_at s.finished (number_at s.places p) ≡ p)
  pub chain : (i : ℕ) → i + 1 < length s.path → (symbol : ℕ) × Leads step (pair_at s.path i) symbol (pair_at s.path (i + 1))
  pub followed : (i symbol q : ℕ) → i < length s.path → symbol < next_at s.path i
      → (i + 1 ≡ length s.path → symbol + due < next_at s.path i) → Leads step (pair_at s.path i) symbol q
      → (s.cyclic ≡ true) ⊎ ((mark_at s.marks q ≡ Finished) ⊎ ((i + 1 < length s.path) × (pair_at s.path (i + 1) ≡ q)))
  pub led : (i symbol q : ℕ) → i < length s.finished → Leads step (number_at s.finished i) symbol q
      → (s.cyclic ≡ true) ⊎ ((mark_at s.marks q ≡ Finished) × (number_at s.places q < i))
  pub cycle : s.cyclic ≡ true → HasCycle step count

abbrev pub visit_of : ℕ → ℕ → Visit
visit_of pair next = record { pair = pair; next = next }

-- the pair is found, and stands at the end of the path
abbrev pub visited : SearchData → ℕ → SearchData
visited s q = record { marks = set s.marks q OnPath; path = s.path ++ visit_of q 0 ∷ []; finished = s.finished; places = s.places; cyclic = s.cyclic }

-- a cycle is found
abbrev pub closed : SearchData → SearchData
closed s = record { marks = s.marks; path = s.path; finished = s.finished; places = s.places; cyclic = true }

-- the pair, with this mark, is come to from the end of the path
abbrev pub reached_by : Mark → SearchData → ℕ → SearchData
reached_by New s q = visited s q
reached_by OnPath s q = closed s
reached_by Finished s q = s

-- the pair is finished
abbrev pub ended : SearchData → ℕ → SearchData
ended s q = record {
  marks = set s.marks q Finished;
  path = s.path;
  finished = s.finished ++ q ∷ [];
  places = set s.places q (length s.finished);
  cyclic = s.cyclic;
}

-- the last symbol that is followed from the end of the path leads here
abbrev pub LinksTo : (ℕ → ℕ → Option ℕ) → SearchData → ℕ → Type 0
LinksTo step s q = (i : ℕ) → i + 1 ≡ length s.path
    → (symbol : ℕ) × (symbol + 1 ≡ next_at s.path i) × Leads step (pair_at s.path i) symbol q

-- what was found before is so still
abbrev pub KeepsKnown : SearchData → SearchData → Type 0
KeepsKnown s s' = (p : ℕ) → mark_at s'.marks p ≡ New → mark_at s.marks p ≡ New

abbrev pub is_new : Mark → Bool
is_new New = true
is_new OnPath = false
is_new Finished = false

-- how many steps are left at most
abbrev pub weight : ℕ → SearchData → ℕ
weight width s = count_by is_new s.marks * (width + 2) + sum_by (λ visit. width + 1 - visit.next) s.path

-- The list has each number below the count once, and each has its place in it. There is a cycle, or each arc leads to a
-- lower place.
pub record IsOrder (step : ℕ → ℕ → Option ℕ) (count : ℕ) (finished places : List ℕ) (cyclic : Bool) : Type 0 where
  pub placed : length places ≡ count
  pub listed : (i : ℕ) → i < length finished → (number_at finished i < count) × (number_at places (number_at finished i) ≡ i)
  pub counted : (p : ℕ) → p < count → (number_at places p < length finished) × (number_at finished (number_at places p) ≡ p)
  pub falls : cyclic ≡ false → (p symbol q : ℕ) → p < count → Leads step p symbol q → number_at places q < number_at places p
  pub cycle : cyclic ≡ true → HasCycle step count
