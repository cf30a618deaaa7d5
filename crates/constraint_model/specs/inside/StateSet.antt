-- Sets of a graph's states, as a mark for each of the numbers 0 to 255.
use Rattle.std.specs.Prelude.{◌≡◌, ℕ, ◌<◌, ◌↔◌, Bool, true, false, List, length, slice_index_or}
use Rattle.symbol_base.specs.Walk.{IsWalk}
use Rattle.constraint_spec.specs.declared.GraphEdge.{GraphEdge}
use Rattle.constraint_spec.specs.Walk.{HasEdge}

abbrev pub IsMarked : List Bool → ℕ → Type 0
IsMarked set state = slice_index_or set state false ≡ true

-- The edge joins states that a set can mark.
abbrev pub JoinsBelow256 : GraphEdge → Type 0
JoinsBelow256 edge = (edge.from < 256) × (edge.to < 256)

-- The marked states are those to which an edge with the label leads from a state of the set.
pub record AreLed (edges : List GraphEdge) (from : List Bool) (label : ℕ) (to : List Bool) : Type 0 where
  pub size : length to ≡ 256
  pub marks : (target : ℕ) → IsMarked to target ↔ ((state : ℕ) × IsMarked from state × HasEdge edges state label target)

-- The marked states are those below 256 at which a walk with the word's labels can end.
pub record AreEnds (edges : List GraphEdge) (word : List ℕ) (set : List Bool) : Type 0 where
  pub size : length set ≡ 256
  pub marks : (state : ℕ) → state < 256
      → IsMarked set state ↔ ((from : ℕ) × IsWalk (HasEdge edges) from word state)
