-- The raw state of a word: what its end tells of the symbols that may follow it.
use Rattle.std.specs.Prelude.{◌≡◌, ◌≢◌, ◌↔◌, ℕ, ◌<◌, ◌≤◌, Bool, true, List, [], ◌∷◌, ◌++◌, length, replicate, IfSome, unwrap_or, Contains, Any}
use Rattle.symbol_base.specs.Ascending.{IsAscending}
use Rattle.symbol_base.specs.Walk.{IsWalk}
use Rattle.constraint_spec.specs.Word.{IsPrefix, IsSuffix}
use Rattle.constraint_spec.specs.Walk.{HasEdge}
use Rattle.constraint_spec.specs.Constraint.{ConstraintData}

pub record RawState : Type 0 where
  pub after_one : Bool
  pub zeros : ℕ
  pub matched : List ℕ
  pub ends : List ℕ

-- 0s are counted up to k where k is given, else up to d: more of them allow and forbid the same symbols
abbrev pub zeros_limit : ConstraintData → ℕ
zeros_limit c = unwrap_or c.k c.d

-- some forbidden word begins with v
abbrev pub BeginsForbidden : List (List ℕ) → List ℕ → Type 0
BeginsForbidden forbid v = Any (λ forbidden. IsPrefix v forbidden) forbid

-- The longest suffix of w with which a forbidden word begins; the empty word where there is no longer one.
pub record IsLongestMatch (forbid : List (List ℕ)) (w matched : List ℕ) : Type 0 where
  pub suffix : IsSuffix matched w
  pub begins : matched ≢ [] → BeginsForbidden forbid matched
  pub longest : (v : List ℕ) → IsSuffix v w → BeginsForbidden forbid v → length v ≤ length matched

-- The four parts of the raw state of w.
pub record IsRawStateOf (c : ConstraintData) (w : List ℕ) (raw : RawState) : Type 0 where
  -- whether w has a symbol other than 0 and the last such symbol is a 1
  pub after_one : (raw.after_one ≡ true) ↔ ((zeros : ℕ) × IsSuffix (1 ∷ replicate zeros 0) w)
  -- how many 0s it ends with, counted up to the limit
  pub zeros : (count : ℕ) → (count ≤ raw.zeros) ↔ ((count ≤ zeros_limit c) × IsSuffix (replicate count 0) w)
  -- how much of a forbidden word it ends with
  pub matched : IsLongestMatch c.forbid w raw.matched
  -- the graph's states at which a walk with its symbols can end, in ascending order
  pub ends : (state : ℕ) → Contains raw.ends state
      ↔ ((state < c.states) × (from : ℕ) × IsWalk (HasEdge c.edges) from w state)
  pub order : IsAscending (λ state next. state < next) raw.ends

-- The symbol may follow a word of the constraint that has this raw state.
pub record MayFollow (c : ConstraintData) (raw : RawState) (symbol : ℕ) : Type 0 where
  -- it is one of the alphabet's
  pub inside : symbol < c.alphabet
  -- a 1 stands at least d 0s behind the 1 before it
  pub one : symbol ≡ 1 → raw.after_one ≡ true → c.d ≤ raw.zeros
  -- a 0 makes no run longer than k
  pub zero : symbol ≡ 0 → IfSome c.k (λ k. raw.zeros < k)
  -- no forbidden word ends with it
  pub forbidden : (v : List ℕ) → Contains c.forbid v → IsSuffix v (raw.matched ++ symbol ∷ []) → ⊥
  -- an edge with it leads on from where a walk can end
  pub walked : c.edges ≢ [] → (from : ℕ) × (to : ℕ) × Contains raw.ends from × HasEdge c.edges from symbol to
