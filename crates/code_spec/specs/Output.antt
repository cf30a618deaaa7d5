-- What a code writes for data words, and the states that they lead to.
use Rattle.std.specs.Prelude.{◌≡◌, ℕ, List, [], ◌∷◌, ◌++◌, slice_index_or}
use Rattle.std.specs.List.{flat_map}
use Rattle.symbol_base.specs.declared.Block.{Block}
use Rattle.symbol_base.specs.Block.{symbols_of}
use Rattle.code_spec.specs.declared.CodeRow.{CodeRow}
use Rattle.code_spec.specs.Code.{CodeData, IsState, IsDataWord}

-- the row of a state and a data word; outside the table a row that isn't there reads as block 0 and state 0
abbrev pub row_at : List (List CodeRow) → ℕ → ℕ → CodeRow
row_at rows state word = slice_index_or (slice_index_or rows state []) word (record { block = record { value = 0 }; to = 0 })

-- The code's step: in a state a data word leads to the next state, by the row of the two.
pub record IsStep (c : CodeData) (state word next : ℕ) : Type 0 where
  pub from : IsState c state
  pub by : IsDataWord c word
  pub to : next ≡ (row_at c.rows state word).to

-- the blocks that data words give from a state on
abbrev pub output_from : List (List CodeRow) → ℕ → List ℕ → List Block
output_from rows state [] = []
output_from rows state (word ∷ words) = (row_at rows state word).block ∷ output_from rows (row_at rows state word).to words

-- the state that data words lead to
abbrev pub state_after : List (List CodeRow) → ℕ → List ℕ → ℕ
state_after rows state [] = state
state_after rows state (word ∷ words) = state_after rows (row_at rows state word).to words

abbrev pub output : CodeData → ℕ → List ℕ → List Block
output c state words = output_from c.rows state words

-- the symbols of blocks, one block after the other
abbrev pub flat : CodeData → List Block → List ℕ
flat c blocks = flat_map (λ block. symbols_of c.constraint.alphabet c.q block.value) blocks

-- Encoding the words from the state puts their symbols behind the old ones, and leads to the next state.
pub record Writes (c : CodeData) (state : ℕ) (words old new : List ℕ) (next : ℕ) : Type 0 where
  pub symbols : new ≡ old ++ flat c (output c state words)
  pub leads : next ≡ state_after c.rows state words
