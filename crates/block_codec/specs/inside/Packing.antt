-- Digits of a text as numbers, eight at a time.
use Rattle.std.specs.Prelude.{◌≡◌, ℕ, ◌<◌, ◌^◌, List, length, slice_index}
use Rattle.std.specs.Int.{w64, from_le_bytes}
use Rattle.symbol_base.specs.Block.{symbols_of}
use Rattle.block_codec.specs.inside.Digits.{digits_of}

-- the bytes are so many binary digits, and this is their number
pub record IsPacked (count : ℕ) (bytes : List ℕ) (value : ℕ) : Type 0 where
  pub below : value < 2 ^ count
  pub digits : bytes ≡ digits_of (symbols_of 2 count value)

-- the eight digits of each of the first bytes, as numbers
pub record HasRows (count : ℕ) (rows : List ℕ) : Type 0 where
  pub entries : length rows ≡ count
  pub entry : (byte : ℕ) → byte < count → slice_index rows byte ≡ from_le_bytes w64 (digits_of (symbols_of 2 8 byte))
