-- A code, as plain data: its constraint, its rate p : q, its window, and its table.
use Rattle.std.specs.Prelude.{◌≡◌, ℕ, ◌<◌, ◌≤◌, ◌^◌, List, length, All}
use Rattle.constraint_spec.specs.Constraint.{ConstraintData}
use Rattle.constraint_spec.specs.Ranges.{IsConstraint}
use Rattle.code_spec.specs.declared.CodeRow.{CodeRow}

-- A data word has p bits and a block q symbols. The window has past blocks before the one that is
-- decoded and ahead blocks behind it. A state's rows stand in the order of the data words.
pub record CodeData : Type 0 where
  pub constraint : ConstraintData
  pub p : ℕ
  pub q : ℕ
  pub past : ℕ
  pub ahead : ℕ
  pub rows : List (List CodeRow)

-- codes are on the symbols 0 and 1
abbrev pub code_alphabet : ℕ
code_alphabet = 2

-- the states are the numbers below their count
abbrev pub IsState : CodeData → ℕ → Type 0
IsState c state = state < length c.rows

-- a data word of p bits, as a number
abbrev pub IsDataWord : CodeData → ℕ → Type 0
IsDataWord c word = word < 2 ^ c.p

abbrev pub IsDataWords : CodeData → List ℕ → Type 0
IsDataWords c words = All (IsDataWord c) words

-- a row's block has q symbols, and its target is a state
abbrev pub IsRowOf : CodeData → CodeRow → Type 0
IsRowOf c row = (row.block.value < c.constraint.alphabet ^ c.q) × IsState c row.to

-- a state has a row for each data word
abbrev pub IsStateOf : CodeData → List CodeRow → Type 0
IsStateOf c rows = (length rows ≡ 2 ^ c.p) × All (IsRowOf c) rows

-- what every code keeps
pub record IsCode (c : CodeData) : Type 0 where
  pub constraint : IsConstraint c.constraint
  pub alphabet : c.constraint.alphabet ≡ code_alphabet
  pub p : (1 ≤ c.p) × (c.p ≤ 8)
  pub q : (c.p ≤ c.q) × (c.q ≤ 20)
  pub past : c.past ≤ 256
  pub ahead : c.ahead ≤ 511
  pub states : (1 ≤ length c.rows) × (length c.rows ≤ 512)
  pub rows : All (IsStateOf c) c.rows
