-- Digits that come one after the other, and are taken out in groups of one size.
use Rattle.std.specs.Prelude.{◌≡◌, ℕ, ◌<◌, ◌^◌, Option, Some, None, List, ◌++◌, length}
use Rattle.symbol_base.specs.Block.{number_of, symbols_of}
use Rattle.symbol_base.specs.Word.{IsOver}
use Rattle.block_codec.specs.declared.part.Part.{Part}

-- so many binary digits, as a number
pub record IsPart (size : ℕ) (part : Part) : Type 0 where
  pub short : part.count < size
  pub below : part.value < 2 ^ part.count

-- the number and the count of these digits
pub record HoldsDigits (value count : ℕ) (digits : List ℕ) : Type 0 where
  pub counted : count ≡ length digits
  pub number : value ≡ number_of 2 digits
  pub over : IsOver 2 digits

abbrev pub Holds : Part → List ℕ → Type 0
Holds part digits = HoldsDigits part.value part.count digits

-- a whole group, and the digits behind it
pub record TakesOut (size : ℕ) (digits : List ℕ) (part : Part) (whole : ℕ) : Type 0 where
  pub rest : List ℕ
  pub split : digits ≡ symbols_of 2 size whole ++ rest
  pub below : whole < 2 ^ size
  pub held : Holds part rest

-- the digits are held, or a whole group is taken out and the others are held
abbrev pub Regroups : ℕ → List ℕ → Part → Option ℕ → Type 0
Regroups size digits part None = Holds part digits
Regroups size digits part (Some whole) = TakesOut size digits part whole
