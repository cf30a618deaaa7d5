-- Raw states as keys of the search, and sets of a graph's states.
use Rattle.std.specs.Prelude.{◌≡◌, ℕ, ◌<◌, Bool, false, not, ◌&&◌, ◌||◌, nat_eq, nat_lt, nat_le, List, length, slice_index_or}
use Rattle.constraint_spec.specs.declared.GraphEdge.{GraphEdge}
use Rattle.constraint_spec.specs.Constraint.{ConstraintData}
use Rattle.constraint_spec.specs.RawState.{RawState}
use Rattle.constraint_spec.specs.RawStateOf.{is_below}
use Rattle.min_cover.specs.declared.raw_states.StateKey.{StateKey}

-- the raw state that a key stands for
abbrev pub raw_of : StateKey → RawState
raw_of key = record { after_one = key.after_one; zeros = key.zeros; matched = key.matched; ends = key.ends }

-- the edge joins states that a set of 256 marks can hold
abbrev pub JoinsBelow256 : GraphEdge → Type 0
JoinsBelow256 edge = (edge.from < 256) × (edge.to < 256)

-- the marked states are those below 256 that pass the test
pub record Marks (test : ℕ → Bool) (marks : List Bool) : Type 0 where
  pub size : length marks ≡ 256
  pub marked : (state : ℕ) → state < 256 → slice_index_or marks state false ≡ test state

-- whether the alphabet, d and k let the symbol follow
abbrev pub runs_fit : ConstraintData → RawState → ℕ → Bool
runs_fit c raw symbol =
    nat_lt symbol c.alphabet
    && ((not (nat_eq symbol 1) || (not raw.after_one || nat_le c.d raw.zeros))
    && (not (nat_eq symbol 0) || is_below raw.zeros c.k))
