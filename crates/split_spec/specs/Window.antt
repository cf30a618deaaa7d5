-- Windows of a graph: blocks that tell one of the edges that they were read along.
use Rattle.std.specs.Prelude.{◌≡◌, ℕ, List, length}
use Rattle.symbol_base.specs.Walk.{IsWalk}
use Rattle.label_graphs.specs.Graph.{EdgeData, HasEdge}

-- a walk along these blocks, which passes the edge with the block between them
pub record Passes (rows : List (List EdgeData)) (before : List ℕ) (block : ℕ) (behind : List ℕ) : Type 0 where
  pub start : ℕ
  pub from : ℕ
  pub to : ℕ
  pub end : ℕ
  pub walk_before : IsWalk (HasEdge rows) start before from
  pub edge : HasEdge rows from block to
  pub walk_behind : IsWalk (HasEdge rows) to behind end

-- any two walks with the same blocks pass the same edge behind the first a of them and before the last r
abbrev pub HasWindow : List (List EdgeData) → ℕ → ℕ → Type 0
HasWindow rows a r = (before behind : List ℕ) (block : ℕ) → length before ≡ a → length behind ≡ r
    → (one other : Passes rows before block behind) → (one.from ≡ other.from) × (one.to ≡ other.to)
