-- Windows as numbers, and the table of the decoder's answers to all of them.
use Rattle.std.specs.Prelude.{◌≡◌, ℕ, ◌*◌, ◌/◌, ◌%◌, ◌<◌, ◌≤◌, ◌^◌, ◌⊎◌, List, length, map, slice_index}
use Rattle.symbol_base.specs.declared.Block.{Block}
use Rattle.symbol_base.specs.Block.{symbols_of}
use Rattle.code_spec.specs.Code.{CodeData}
use Rattle.code_spec.specs.Output.{output}
use Rattle.code_spec.specs.Decoder.{window_length, IsFound, IsDecoded}
use Rattle.block_codec.specs.Decoding.{block_of}

-- so many blocks of q symbols as the digits of a number, the first block most significant
abbrev pub blocks_in : ℕ → ℕ → ℕ → List Block
blocks_in q count number = map block_of (symbols_of (2 ^ q) count number)

-- the window with a number
abbrev pub window_of : CodeData → ℕ → List Block
window_of c number = blocks_in c.q (window_length c) number

-- how many windows there are
abbrev pub window_count : CodeData → ℕ
window_count c = 2 ^ (c.q * window_length c)

-- a window has at most 18 symbols, so a table of all windows is small
abbrev pub HasShortWindows : CodeData → Type 0
HasShortWindows c = c.q * window_length c ≤ 18

-- the data words with a number, as many as a window has blocks, the first most significant
abbrev pub words_in : CodeData → ℕ → List ℕ
words_in c number = symbols_of (2 ^ c.p) (window_length c) number

-- how many such lists of data words there are
abbrev pub list_count : CodeData → ℕ
list_count c = 2 ^ (c.p * window_length c)

-- each entry is the decoder's answer to the window with its number
pub record IsAnswerTable (c : CodeData) (table : List ℕ) : Type 0 where
  pub entries : length table ≡ window_count c
  pub answer : (number : ℕ) → number < window_count c → IsDecoded c (window_of c number) (slice_index table number)

-- The walk with a number begins in its state, and takes its data words: those with one state stand together.
abbrev pub IsWrittenBy : CodeData → ℕ → ℕ → Type 0
IsWrittenBy c walk number = output c (walk / list_count c) (words_in c (walk % list_count c)) ≡ window_of c number

-- an entry is a word that the window can have, or 0 where none of the first walks writes the window
abbrev pub IsEntryOf : CodeData → ℕ → ℕ → ℕ → Type 0
IsEntryOf c walks number entry = IsFound c (window_of c number) entry ⊎ ((entry ≡ 0) × ((walk : ℕ) → walk < walks → IsWrittenBy c walk number → ⊥))

-- the table after the first walks
pub record IsFilledBy (c : CodeData) (walks : ℕ) (table : List ℕ) : Type 0 where
  pub entries : length table ≡ window_count c
  pub entry : (number : ℕ) → number < window_count c → IsEntryOf c walks number (slice_index table number)
