-- The ranges and orders that the parts of a constraint keep.
use Rattle.std.specs.Prelude.{◌≡◌, ℕ, ◌<◌, ◌≤◌, ◌==◌, ◌&&◌, ◌||◌, nat_lt, Bool, ◌↔◌, ◌⊎◌, List, [], length, All, IfSome}
use Rattle.symbol_base.specs.Ascending.{IsAscending}
use Rattle.symbol_base.specs.Word.{IsOver, IsBefore}
use Rattle.constraint_spec.specs.declared.GraphEdge.{GraphEdge}
use Rattle.constraint_spec.specs.Constraint.{ConstraintData}

-- by state, then by label, then by target
abbrev pub IsEdgeBefore : GraphEdge → GraphEdge → Type 0
IsEdgeBefore e f =
    (e.from < f.from) ⊎ ((e.from ≡ f.from) × ((e.label < f.label) ⊎ ((e.label ≡ f.label) × (e.to < f.to))))

-- the test of that order
abbrev pub edge_before : GraphEdge → GraphEdge → Bool
edge_before e f = nat_lt e.from f.from || ((e.from == f.from) && (nat_lt e.label f.label || ((e.label == f.label) && nat_lt e.to f.to)))

-- a forbidden word has 1 to 32 symbols of the alphabet
abbrev pub IsForbiddable : ℕ → List ℕ → Type 0
IsForbiddable alphabet word = (1 ≤ length word) × (length word ≤ 32) × IsOver alphabet word

abbrev pub IsEdgeOf : ConstraintData → GraphEdge → Type 0
IsEdgeOf c e = (e.from < c.states) × (e.label < c.alphabet) × (e.to < c.states)

-- what every constraint keeps
pub record IsConstraint (c : ConstraintData) : Type 0 where
  pub alphabet : (2 ≤ c.alphabet) × (c.alphabet ≤ 4)
  pub d : c.d ≤ 100
  pub k : IfSome c.k (λ k. (c.d ≤ k) × (k ≤ 100))
  pub forbid_count : length c.forbid ≤ 128
  pub forbid_words : All (IsForbiddable c.alphabet) c.forbid
  pub forbid_order : IsAscending IsBefore c.forbid
  pub states : c.states ≤ 256
  pub graph : (c.states ≡ 0) ↔ (c.edges ≡ [])
  pub edge_count : length c.edges ≤ 2048
  pub edges : All (IsEdgeOf c) c.edges
  pub edge_order : IsAscending IsEdgeBefore c.edges
