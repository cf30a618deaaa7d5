-- The walks of a code: where blocks lead to, and from where they can be read.
use Rattle.std.specs.Prelude.{◌≡◌, ℕ, List}
use Rattle.symbol_base.specs.declared.Block.{Block}
use Rattle.code_spec.specs.Output.{row_at, state_after, output}
use Rattle.code_spec.specs.Code.{CodeData, IsState, IsDataWord, IsDataWords}

-- a row of the state writes the block and leads to the next state
pub record IsArc (c : CodeData) (state : ℕ) (block : Block) (next : ℕ) : Type 0 where
  pub word : ℕ
  pub below : IsDataWord c word
  pub writes : (row_at c.rows state word).block ≡ block
  pub leads : (row_at c.rows state word).to ≡ next

-- some state and data words write the blocks and lead to the state
pub record IsReached (c : CodeData) (blocks : List Block) (state : ℕ) : Type 0 where
  pub from : ℕ
  pub words : List ℕ
  pub inside : IsState c from
  pub below : IsDataWords c words
  pub writes : output c from words ≡ blocks
  pub leads : state_after c.rows from words ≡ state

-- some data words write the blocks from the state on
pub record IsReadable (c : CodeData) (blocks : List Block) (state : ℕ) : Type 0 where
  pub words : List ℕ
  pub below : IsDataWords c words
  pub writes : output c state words ≡ blocks

-- The words write the blocks from the state on, and lead to the next state.
pub record IsWalkOf (c : CodeData) (state : ℕ) (words : List ℕ) (blocks : List Block) (next : ℕ) : Type 0 where
  pub below : IsDataWords c words
  pub writes : output c state words ≡ blocks
  pub leads : state_after c.rows state words ≡ next

-- In some state to which the front leads, the word's row writes the block and leads to where the back can be read.
pub record IsBetween (c : CodeData) (front : List Block) (block : Block) (back : List Block) (word : ℕ) : Type 0 where
  pub state : ℕ
  pub reached : IsReached c front state
  pub below : IsDataWord c word
  pub writes : (row_at c.rows state word).block ≡ block
  pub readable : IsReadable c back (row_at c.rows state word).to
