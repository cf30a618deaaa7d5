-- The least walk of a graph to a goal.
use Rattle.std.specs.Prelude.{◌≡◌, ℕ, ◌<◌, ◌⊎◌, List, ◌∷◌, length, get_or, Bool, true, false}
use Rattle.symbol_base.specs.Walk.{IsWalk}
use Rattle.symbol_base.specs.Word.{IsBefore}
use Rattle.least_walks.specs.Graph.{Graph}

-- the shorter labels first, and of two of one length the smaller at the first difference
abbrev pub IsAtMost : List ℕ → List ℕ → Type 0
IsAtMost u w = (u ≡ w) ⊎ IsBefore u w

abbrev pub IsGoal : List Bool → ℕ → Type 0
IsGoal goals v = get_or goals v false ≡ true

-- the labels, at least one, lead from the start to a goal, and no other such labels stand before them
pub record IsLeastWalk (g : Graph) (goals : List Bool) (start : ℕ) (labels : List ℕ) : Type 0 where
  pub some : 0 < length labels
  pub goal : ℕ
  pub reached : IsGoal goals goal
  pub walk : IsWalk g.arc start labels goal
  pub least : (label : ℕ) (others : List ℕ) (v : ℕ) → IsWalk g.arc start (label ∷ others) v → IsGoal goals v
      → IsAtMost labels (label ∷ others)
