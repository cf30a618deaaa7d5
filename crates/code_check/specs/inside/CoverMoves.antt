-- The states that symbols lead to in a cover, and tables of them.
use Rattle.std.specs.Prelude.{◌≡◌, ℕ, ◌+◌, ◌*◌, ◌^◌, ◌<◌, ◌≤◌, List, [], ◌∷◌, length, get_or, cond, nat_eq, All}
use Rattle.symbol_base.specs.Block.{symbols_of}
use Rattle.label_graphs.specs.Graph.{EdgeData, IsGraph}
use Rattle.code_check.specs.declared.reader.MoveTable.{MoveTable}
use Rattle.code_check.specs.inside.ReadGraph.{after}

-- where the first edge with the symbol leads, or to the given state where there is none
abbrev pub target_of : List EdgeData → ℕ → ℕ → ℕ
target_of [] symbol none = none
target_of (edge ∷ edges) symbol none = cond (nat_eq edge.block symbol) edge.to (target_of edges symbol none)

-- the state that a symbol leads to in a graph: the number of its states where no edge leads on
abbrev pub move_on : List (List EdgeData) → ℕ → ℕ → ℕ
move_on rows state symbol = target_of (get_or rows state []) symbol (length rows)

-- Of each state, and of each word of so many symbols 0 and 1, the state that the word leads to: the words of a state
-- stand in the order of their numbers.
pub record IsMoveTable (rows : List (List EdgeData)) (symbols : ℕ) (table : List ℕ) : Type 0 where
  pub size : length table ≡ (length rows + 1) * 2 ^ symbols
  pub leads : (state number : ℕ) → state ≤ length rows → number < 2 ^ symbols
      → get_or table (state * 2 ^ symbols + number) 0 ≡ after (move_on rows) state (symbols_of 2 symbols number)

-- each state's move by a 0 and by a 1, in the order of the states
abbrev pub moves_of : List (List EdgeData) → List ℕ → List ℕ
moves_of rows [] = []
moves_of rows (state ∷ states) = move_on rows state 0 ∷ move_on rows state 1 ∷ moves_of rows states

-- the table is one of the graph's, of words of at most 10 symbols
pub record IsTableOf (rows : List (List EdgeData)) (table : MoveTable) : Type 0 where
  pub graph : IsGraph rows
  pub short : table.symbols ≤ 10
  pub moves : IsMoveTable rows table.symbols table.states.items
  pub inside : All (λ state. state ≤ length rows) table.states.items
