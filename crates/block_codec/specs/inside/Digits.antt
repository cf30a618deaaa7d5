-- The digits of what a code writes, in a room of bytes.
use Rattle.std.specs.Prelude.{◌≡◌, ℕ, ◌+◌, ◌*◌, List, ◌++◌, length, map, take}
use Rattle.code_spec.specs.Code.{CodeData, IsState}
use Rattle.code_spec.specs.Output.{state_after, output, flat}

-- symbols as digits of a text
abbrev pub digits_of : List ℕ → List ℕ
digits_of symbols = map (λ symbol. 48 + symbol) symbols

-- the digits that the code writes for data words from a state on
unfoldable pub digits_from : CodeData → ℕ → List ℕ → List ℕ
digits_from c state words = digits_of (flat c (output c state words))

-- Encoding the words from the state puts their digits into the room, from a place on, behind what stands
-- before it, and leads to the next state.
pub record PutsDigits (c : CodeData) (state : ℕ) (words : List ℕ) (at : ℕ) (old new : List ℕ) (next : ℕ) : Type 0 where
  pub digits : take (at + c.q * length words) new ≡ take at old ++ digits_from c state words
  pub leads : next ≡ state_after c.rows state words
  pub inside : IsState c next
  pub len : length new ≡ length old
