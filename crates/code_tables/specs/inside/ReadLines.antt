-- What the readers of the lines of a code file answer.
use Rattle.std.specs.Prelude.{◌≡◌, ℕ, ◌≤◌, Result, Ok, Err}
use Rattle.code_spec.specs.declared.CodeRow.{CodeRow}
use Rattle.code_tables.specs.declared.fault.CodeTextFault.{CodeTextFault}
use Rattle.code_tables.specs.declared.fault.CodeTextFault.TheVariants.{BadCode, NoMemory}
use Rattle.code_tables.specs.declared.table.Sizes.{Sizes}

-- what a function refused is a wrong line of what reading gives, unless memory ran out
abbrev pub RefusesLine : {Y : Type 0} → CodeTextFault → Result Y ℕ → Type 0
RefusesLine (BadCode n) read = read ≡ Err n
RefusesLine NoMemory read = Unit {0}

-- what a function returned, seen by view, is what reading gives
abbrev pub GivesLines : {X Y : Type 0} → (X → Y) → Result X CodeTextFault → Result Y ℕ → Type 0
GivesLines view (Ok x) read = read ≡ Ok (view x)
GivesLines view (Err fault) read = RefusesLine fault read

abbrev pub sizes_of : Sizes → (ℕ × ℕ) × ((ℕ × ℕ) × ℕ)
sizes_of s = ((s.p, s.q), ((s.past, s.ahead), s.states))

-- the sizes are in the ranges of a code
pub record AreReadable (s : Sizes) : Type 0 where
  pub p : s.p ≤ 8
  pub q : s.q ≤ 20
  pub past : s.past ≤ 256
  pub ahead : s.ahead ≤ 511
  pub one : 1 ≤ s.states
  pub states : s.states ≤ 512

abbrev pub row_of_numbers : ℕ → ℕ → CodeRow
row_of_numbers value to = record { block = record { value = value }; to = to }
