-- The graph of the pairs of states of a cover.
use Rattle.std.specs.Prelude.{◌≡◌, ℕ, ◌+◌, ◌*◌, ◌/◌, ◌%◌, ◌<◌, nat_eq, if◌then◌else◌, List, [], ◌∷◌, length, slice_index_or, Option, Some, None}
use Rattle.symbol_base.specs.Walk.{IsWalk}
use Rattle.label_graphs.specs.Graph.{EdgeData}
use Rattle.label_graphs.specs.Cover.{CoverData}
use Rattle.least_walks.specs.Graph.{Graph}

-- where the first edge with the symbol leads
abbrev pub target_of : List EdgeData → ℕ → Option ℕ
target_of [] symbol = None
target_of (e ∷ row) symbol = if nat_eq e.block symbol then Some e.to else target_of row symbol

-- the pair of two targets, where they differ
abbrev pub pair_of : ℕ → Option ℕ → Option ℕ → Option ℕ
pair_of states None second = None
pair_of states (Some x) None = None
pair_of states (Some x) (Some y) = if nat_eq x y then None else Some (x * states + y)

abbrev pub pair_count : List (List EdgeData) → ℕ
pair_count rows = length rows * length rows

-- the pair to which the symbol leads from a pair of different states
abbrev pub pair_step : List (List EdgeData) → ℕ → ℕ → Option ℕ
pair_step rows pair symbol =
    if nat_eq (pair / length rows) (pair % length rows) then None
    else pair_of (length rows) (target_of (slice_index_or rows (pair / length rows) []) symbol) (target_of (slice_index_or rows (pair % length rows) []) symbol)

-- the arcs of a machine on numbers
abbrev pub Leads : (ℕ → ℕ → Option ℕ) → ℕ → ℕ → ℕ → Type 0
Leads step here symbol there = step here symbol ≡ Some there

abbrev pub pair_graph : CoverData → Graph
pair_graph cover = record { nodes = pair_count cover.graph; arc = Leads (pair_step cover.graph) }

-- a walk with so many symbols begins here
abbrev pub HasWalk : (ℕ → ℕ → Option ℕ) → ℕ → ℕ → Type 0
HasWalk step here n = (word : List ℕ) × (there : ℕ) × (length word ≡ n) × IsWalk (Leads step) here word there

-- a walk with a symbol at least leads back
abbrev pub IsOnCycle : (ℕ → ℕ → Option ℕ) → ℕ → Type 0
IsOnCycle step here = (word : List ℕ) × (0 < length word) × IsWalk (Leads step) here word here

-- some walk with a symbol at least leads back to where it began
pub record HasCycle (step : ℕ → ℕ → Option ℕ) (count : ℕ) : Type 0 where
  pub here : ℕ
  pub inside : here < count
  pub back : IsOnCycle step here
