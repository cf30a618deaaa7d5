-- The graph of a code's states, each beside the state of a machine that reads the words of its constraint.
use Rattle.std.specs.Prelude.{◌≡◌, ℕ, ◌+◌, ◌*◌, ◌/◌, ◌%◌, ◌<◌, ◌≤◌, ◌↔◌, List, [], ◌∷◌, length, Bool}
use Rattle.symbol_base.specs.Block.{symbols_of}
use Rattle.constraint_spec.specs.Constraint.{ConstraintData, IsWordOf}
use Rattle.code_spec.specs.Code.{CodeData, IsDataWord}
use Rattle.code_spec.specs.Output.{row_at}
use Rattle.least_walks.specs.Graph.{Graph}
use Rattle.least_walks.specs.LeastWalk.{IsGoal}

-- the state that symbols lead a machine to
abbrev pub after : (ℕ → ℕ → ℕ) → ℕ → List ℕ → ℕ
after move state [] = state
after move state (symbol ∷ symbols) = after move (move state symbol) symbols

-- The machine has the states 0 to count - 1, and the state count, to which from state 0 just those symbols lead that
-- are no word.
pub record IsReader (c : ConstraintData) (count : ℕ) (move : ℕ → ℕ → ℕ) : Type 0 where
  pub some : 0 < count
  pub inside : (state symbol : ℕ) → state ≤ count → move state symbol ≤ count
  pub words : (word : List ℕ) → IsWordOf c word ↔ (after move 0 word < count)

-- the code's state times the number of the machine's states, and the machine's state, are a node
pub record IsReadStep (c : CodeData) (count : ℕ) (move : ℕ → ℕ → ℕ) (node word next : ℕ) : Type 0 where
  pub inside : node < (count + 1) * length c.rows
  pub below : IsDataWord c word
  pub to :
      next ≡ (row_at c.rows (node / (count + 1)) word).to * (count + 1)
      + after move (node % (count + 1)) (symbols_of c.constraint.alphabet c.q (row_at c.rows (node / (count + 1)) word).block.value)

abbrev pub read_graph : CodeData → ℕ → (ℕ → ℕ → ℕ) → Graph
read_graph c count move = record { nodes = (count + 1) * length c.rows; arc = IsReadStep c count move }

-- the goals are the nodes at which what was read is no word
abbrev pub AreOutside : CodeData → ℕ → List Bool → Type 0
AreOutside c count goals = (node : ℕ) → node < (count + 1) * length c.rows → IsGoal goals node ↔ (node % (count + 1) ≡ count)
