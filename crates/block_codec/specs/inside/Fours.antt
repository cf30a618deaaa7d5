-- The table of the answers to four windows in a row.
use Rattle.std.specs.Prelude.{◌≡◌, ℕ, ◌+◌, ◌*◌, ◌<◌, ◌≤◌, ◌^◌, List, length, slice_index}
use Rattle.symbol_base.specs.Block.{symbols_of}
use Rattle.code_spec.specs.Code.{CodeData}
use Rattle.code_spec.specs.Decoder.{window_length, AreDecoded}
use Rattle.block_codec.specs.inside.Answers.{blocks_in}

-- four data words fit into a byte, and the symbols of four windows in a row number a small table
pub record HasShortFours (c : CodeData) : Type 0 where
  pub byte : c.p ≤ 2
  pub small : c.q * (window_length c + 3) ≤ 18

-- the data words of the four windows of a number
pub record IsFour (c : CodeData) (here entry : ℕ) : Type 0 where
  pub below : entry < 2 ^ (c.p * 4)
  pub words : AreDecoded c (blocks_in c.q (window_length c + 3) here) (symbols_of (2 ^ c.p) 4 entry)

-- each entry has the words of the four windows of its number
pub record IsFourTable (c : CodeData) (table : List ℕ) : Type 0 where
  pub entries : length table ≡ 2 ^ (c.q * (window_length c + 3))
  pub four : (here : ℕ) → here < length table → IsFour c here (slice_index table here)

-- such a table, or none
abbrev pub HasFours : CodeData → List ℕ → Type 0
HasFours c table = 0 < length table → IsFourTable c table
