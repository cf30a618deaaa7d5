-- The code file: ASCII text, a line feed behind each line, one space between fields, and decimal numbers
-- without leading zeros, so each code has one spelling.
use Rattle.std.specs.Prelude.{◌≡◌, ℕ, ◌+◌, List, [], ◌∷◌, ◌++◌, length, map, Option, Some, None, codes}
use Rattle.std.specs.Fmt.{decimal}
pub use Rattle.text_reading.specs.Lines.{text_of}
use Rattle.symbol_base.specs.Block.{symbols_of}
use Rattle.constraint_spec.specs.declared.GraphEdge.{GraphEdge}
use Rattle.constraint_spec.specs.Constraint.{ConstraintData}
use Rattle.code_spec.specs.declared.CodeRow.{CodeRow}
use Rattle.code_spec.specs.Code.{CodeData, IsCode}

-- fields of a line
abbrev pub spaced : List ℕ → List ℕ → List ℕ
spaced left right = left ++ 32 ∷ right

-- one digit per symbol
abbrev pub digits : List ℕ → List ℕ
digits word = map (λ symbol. 48 + symbol) word

-- the most 0s in a row, or a dash where there is no limit
abbrev pub limit : Option ℕ → List ℕ
limit None = 45 ∷ []
limit (Some k) = decimal k

abbrev pub edge_line : GraphEdge → List ℕ
edge_line e = spaced (decimal e.from) (spaced (decimal e.label) (decimal e.to))

-- the alphabet, the runs, the forbidden words and the graph
abbrev pub constraint_lines : ConstraintData → List (List ℕ)
constraint_lines c =
    (spaced (codes "alphabet") (decimal c.alphabet) ∷ spaced (codes "d") (decimal c.d) ∷ spaced (codes "k") (limit c.k)
    ∷ spaced (codes "forbid") (decimal (length c.forbid)) ∷ [])
    ++ map digits c.forbid
    ++ spaced (codes "graph") (spaced (decimal c.states) (decimal (length c.edges))) ∷ []
    ++ map edge_line c.edges

-- state, data word, block and target
abbrev pub row_line : ℕ → ℕ → ℕ → ℕ → CodeRow → List ℕ
row_line alphabet q state word row =
    spaced (decimal state) (spaced (decimal word) (spaced (digits (symbols_of alphabet q row.block.value)) (decimal row.to)))

-- the rows of a state, from a data word on
abbrev pub state_lines : CodeData → ℕ → ℕ → List CodeRow → List (List ℕ)
state_lines c state word [] = []
state_lines c state word (row ∷ rows) = row_line c.constraint.alphabet c.q state word row ∷ state_lines c state (word + 1) rows

-- the rows of the states from one on
abbrev pub table_lines : CodeData → ℕ → List (List CodeRow) → List (List ℕ)
table_lines c state [] = []
table_lines c state (rows ∷ others) = state_lines c state 0 rows ++ table_lines c (state + 1) others

abbrev pub code_lines : CodeData → List (List ℕ)
code_lines c =
    codes "modcode 1" ∷ constraint_lines c.constraint
    ++ spaced (codes "rate") (spaced (decimal c.p) (decimal c.q))
    ∷ spaced (codes "window") (spaced (decimal c.past) (decimal c.ahead))
    ∷ spaced (codes "states") (decimal (length c.rows))
    ∷ table_lines c 0 c.rows

-- the text of a code
abbrev pub code_text : CodeData → List ℕ
code_text c = text_of (code_lines c)

-- the bytes are the text of this code
pub record IsCodeText (bytes : List ℕ) (c : CodeData) : Type 0 where
  pub code : IsCode c
  pub spelled : bytes ≡ code_text c
