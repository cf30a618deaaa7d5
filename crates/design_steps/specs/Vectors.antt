-- The approximate eigenvector of a power, as a step: the least bound that has one and the greatest within it, or
-- that no bound up to the given one has any.
use Rattle.std.specs.Prelude.{ℕ, ◌≤◌, List, length}
use Rattle.label_graphs.specs.Graph.{EdgeData}
use Rattle.label_graphs.specs.Vector.{target_sum, IsGreatest, IsLeastBound, IsVector}
use Rattle.command_steps.specs.declared.status.Status.TheVariants.{NoVector}
use Rattle.steps.specs.Step.{Reads}
use Rattle.command_steps.specs.Step.{Step}

-- a bound, and a weight for each state
pub record VectorData : Type 0 where
  pub bound : ℕ
  pub weights : List ℕ

-- the least bound, which is at most the given one, and the greatest solution within it
pub record IsLeastVector (power : List (List EdgeData)) (n most : ℕ) (vector : VectorData) : Type 0 where
  pub within : vector.bound ≤ most
  pub least : IsLeastBound (target_sum power) (length power) n vector.bound
  pub greatest : IsGreatest (target_sum power) (length power) n vector.bound vector.weights

abbrev pub HasNoVector : List (List EdgeData) → ℕ → ℕ → Type 0
HasNoVector power n most = (x : List ℕ) → IsVector (target_sum power) (length power) n most x → ⊥

abbrev pub VectorOf : List (List EdgeData) → ℕ → ℕ → Step VectorData
VectorOf power n most = Reads (IsLeastVector power n most) (λ (none : Unit {0}). HasNoVector power n most) (λ none. NoVector)
