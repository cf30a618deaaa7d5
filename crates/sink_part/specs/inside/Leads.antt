-- Which states lead to which, and which of them are states of a sink.
use Rattle.std.specs.Prelude.{◌≡◌, ◌↔◌, ◌⊎◌, ℕ, ◌<◌, ◌≤◌, ◌^◌, Bool, true, false, List, [], length, map, slice_index, slice_index_or, All}
use Rattle.std.specs.Global.{Vec}
use Rattle.label_graphs.specs.Graph.{EdgeData, IsGraph}
use Rattle.label_graphs.specs.Kept.{marked_states}
use Rattle.label_graphs.specs.Reach.{MarkReached}
use Rattle.label_graphs.specs.Sink.{IsLedTo, total_weight}

abbrev pub table_data : List (Vec Bool) → List (List Bool)
table_data rows = map (λ row. row.items) rows

-- as many marks in each row as there are rows
pub record IsTable (table : List (List Bool)) : Type 0 where
  pub count : length table < 2 ^ 32
  pub square : All (λ row. length row ≡ length table) table

abbrev pub marks_of : List (List Bool) → ℕ → List Bool
marks_of table from = slice_index_or table from []

abbrev pub leads : List (List Bool) → ℕ → ℕ → Bool
leads table from to = slice_index_or (marks_of table from) to false

-- The table has a mark for each two states, which is true exactly where walks through states of positive weight lead
-- from the one to the other.
pub record AreLeads (rows : List (List EdgeData)) (weights : List ℕ) (table : List (List Bool)) : Type 0 where
  pub graph : IsGraph rows
  pub size : length table ≡ length rows
  pub each : (from to : ℕ) → from < length rows → to < length rows
      → (leads table from to ≡ true) ↔ IsLedTo rows weights from to

-- each state to which the state leads leads back to it
abbrev pub IsClosed : List (List Bool) → ℕ → Type 0
IsClosed table from = (to : ℕ) → to < length table → leads table from to ≡ true → leads table to from ≡ true

-- a state of a sink
pub record IsEnd (weights : List ℕ) (table : List (List Bool)) (state : ℕ) : Type 0 where
  pub positive : 0 < slice_index weights state
  pub closed : IsClosed table state

-- the weight of the states to which a state leads
abbrev pub total_from : List ℕ → List (List Bool) → ℕ → ℕ
total_from weights table state = total_weight weights (marked_states (marks_of table state))

-- The state is one of a sink, and each other such state below the bound is of a sink of a greater weight, or of the
-- same weight and not below it.
pub record IsLightest (weights : List ℕ) (table : List (List Bool)) (bound state : ℕ) : Type 0 where
  pub inside : state < bound
  pub end : IsEnd weights table state
  pub least : (other : ℕ) → other < bound → IsEnd weights table other
      → (total_from weights table state < total_from weights table other)
      ⊎ ((total_from weights table state ≡ total_from weights table other) × (state ≤ other))

-- the first rows of a table of the states that walks along links end in
pub record AreReachedRows (links : List (List EdgeData)) (table : List (List Bool)) (count : ℕ) : Type 0 where
  pub size : length table ≡ count
  pub each : (from : ℕ) → from < count → MarkReached links from (marks_of table from)
