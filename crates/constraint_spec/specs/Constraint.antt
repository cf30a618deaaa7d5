-- A constraint on words, as plain data, and which words belong to it.
use Rattle.std.specs.Prelude.{◌≢◌, ℕ, ◌+◌, ◌≤◌, List, [], ◌∷◌, ◌++◌, replicate, Option, IfSome, Contains}
use Rattle.symbol_base.specs.Word.{IsOver}
use Rattle.constraint_spec.specs.declared.GraphEdge.{GraphEdge}
use Rattle.constraint_spec.specs.Word.{IsFactor}
use Rattle.constraint_spec.specs.Walk.{LabelsWalk}

-- the parts of a constraint: its symbols are 0 to alphabet - 1
pub record ConstraintData : Type 0 where
  pub alphabet : ℕ
  pub d : ℕ
  pub k : Option ℕ
  pub forbid : List (List ℕ)
  pub states : ℕ
  pub edges : List GraphEdge

-- The word belongs to the constraint: it satisfies each part that is given.
pub record IsWordOf (c : ConstraintData) (w : List ℕ) : Type 0 where
  -- it is written in the constraint's symbols
  pub symbols : IsOver c.alphabet w
  -- two 1s with nothing but 0s between them have at least d between them
  pub ones : (n : ℕ) → IsFactor (1 ∷ (replicate n 0 ++ 1 ∷ [])) w → c.d ≤ n
  -- no run of 0s is longer than k, where k is given
  pub zeros : IfSome c.k (λ k. IsFactor (replicate (k + 1) 0) w → ⊥)
  -- no forbidden word is a part of it
  pub forbidden : (v : List ℕ) → Contains c.forbid v → IsFactor v w → ⊥
  -- it labels some walk of the graph, where there is one
  pub walked : c.edges ≢ [] → LabelsWalk c.edges w
