-- When a code is right: what it writes keeps its constraint, and can be read again.
use Rattle.std.specs.Prelude.{◌≡◌, ℕ, ◌+◌, List, length, slice_index_or}
use Rattle.constraint_spec.specs.Constraint.{IsWordOf}
use Rattle.code_spec.specs.Code.{CodeData, IsCode, IsState, IsDataWords}
use Rattle.code_spec.specs.Output.{output, flat}

-- what data words write from state 0 is a word of the constraint
abbrev pub WritesWord : CodeData → List ℕ → Type 0
WritesWord c words = IsWordOf c.constraint (flat c (output c 0 words))

-- Blocks tell the data word of one of them, from so many blocks before it and so many behind it: data words that
-- write the same blocks, from any states, have the same word there.
abbrev pub Separates : CodeData → ℕ → ℕ → Type 0
Separates c past ahead =
    (s t : ℕ) (xs ys : List ℕ) → IsState c s → IsState c t → IsDataWords c xs → IsDataWords c ys
    → length xs ≡ past + 1 + ahead → length ys ≡ past + 1 + ahead → output c s xs ≡ output c t ys
    → slice_index_or xs past 0 ≡ slice_index_or ys past 0

-- A finite-state encoder with a sliding-block decoder: all that it writes from state 0 keeps its constraint, and
-- its window tells the data words.
pub record IsCheckedCode (c : CodeData) : Type 0 where
  pub code : IsCode c
  pub words : (words : List ℕ) → IsDataWords c words → WritesWord c words
  pub window : Separates c c.past c.ahead
