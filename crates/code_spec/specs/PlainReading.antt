-- Reading plain channel text: the file that a text gives, or what is wrong with it.
use Rattle.std.specs.Prelude.{◌≡◌, ℕ, ◌+◌, ◌-◌, ◌*◌, ◌%◌, ◌<◌, ◌≤◌, ◌^◌, ◌==◌, ◌||◌, not, Bool, false, List, ◌++◌, length, map, take, slice_index, All, Result, Ok, Err}
use Rattle.std.specs.List.{flat_map, filter}
use Rattle.symbol_base.specs.declared.Block.{Block}
use Rattle.symbol_base.specs.Bits.{bits}
use Rattle.symbol_base.specs.Block.{symbols_of}
use Rattle.code_spec.specs.declared.fault.EndFault.{EndFault}
use Rattle.code_spec.specs.declared.fault.EndFault.TheVariants.{BadSymbol, PartBlock, TooShort, PartByte}
use Rattle.code_spec.specs.Code.{CodeData}
use Rattle.code_spec.specs.Output.{flat}
use Rattle.code_spec.specs.Decoder.{AreDecoded}

-- line feed, carriage return and space, which a reader passes over
abbrev pub is_blank : ℕ → Bool
is_blank byte = (byte == 10) || (byte == 13) || (byte == 32)

-- the bytes of a text that a reader doesn't pass over
abbrev pub marks_in : List ℕ → List ℕ
marks_in text = filter (λ byte. not (is_blank byte)) text

-- the digit of a symbol of the alphabet
pub record IsDigit (c : CodeData) (byte : ℕ) : Type 0 where
  pub least : 48 ≤ byte
  pub below : byte < 48 + c.constraint.alphabet

-- nothing stands in the text but digits and what is passed over
abbrev pub IsChannelText : CodeData → List ℕ → Type 0
IsChannelText c text = All (IsDigit c) (marks_in text)

-- the symbols of its digits
abbrev pub symbols_in : List ℕ → List ℕ
symbols_in text = map (λ byte. byte - 48) (marks_in text)

-- At this place stands the first byte that is neither a digit nor passed over.
pub record IsBadAt (c : CodeData) (text : List ℕ) (at : ℕ) : Type 0 where
  pub inside : at < length text
  pub before : IsChannelText c (take at text)
  pub seen : is_blank (slice_index text at) ≡ false
  pub bad : IsDigit c (slice_index text at) → ⊥

-- a block of q symbols, as a number
abbrev pub IsBlock : CodeData → Block → Type 0
IsBlock c block = block.value < c.constraint.alphabet ^ c.q

-- The symbols are those of the blocks, and behind them some that fill no block.
pub record AreBlocksOf (c : CodeData) (symbols : List ℕ) (blocks : List Block) (rest : List ℕ) : Type 0 where
  pub all : symbols ≡ flat c blocks ++ rest
  pub below : All (IsBlock c) blocks
  pub part : length rest < c.q

-- the bits of data words, p each, the most significant first
abbrev pub word_bits : ℕ → List ℕ → List ℕ
word_bits p words = flat_map (symbols_of 2 p) words

-- The bits of the data words are those of the bytes, and behind them some that fill no byte.
pub record AreBytesOf (p : ℕ) (words bytes rest : List ℕ) : Type 0 where
  pub all : word_bits p words ≡ bits bytes ++ rest
  pub below : All (λ byte. byte < 2 ^ 8) bytes
  pub part : length rest < 8

-- The bytes are all that a text gives that may go on: those of the decoder's answers to its whole blocks.
pub record IsPlainFront (c : CodeData) (text bytes : List ℕ) : Type 0 where
  pub blocks : List Block
  pub rest_symbols : List ℕ
  pub cut : AreBlocksOf c (symbols_in text) blocks rest_symbols
  pub words : List ℕ
  pub decoded : AreDecoded c blocks words
  pub rest_bits : List ℕ
  pub filled : AreBytesOf c.p words bytes rest_bits

-- so many symbols are lead-in, lead-out and so many data words between them
abbrev pub HasWords : CodeData → List ℕ → ℕ → Type 0
HasWords c text count = length (symbols_in text) ≡ c.q * (c.past + c.ahead + count)

-- What a whole text gives. A file of whole bytes leaves fewer than p bits over in its last data word.
pub data ReadsText (c : CodeData) (text : List ℕ) : Result (List ℕ) EndFault → Type 0 where
  bad_symbol : (at : ℕ) → IsBadAt c text at → ReadsText c text (Err (BadSymbol at))
  part_block : IsChannelText c text → (length (symbols_in text) % c.q ≡ 0 → ⊥) → ReadsText c text (Err (PartBlock (length (symbols_in text))))
  too_short : IsChannelText c text → (count : ℕ) → length (symbols_in text) ≡ c.q * count → count < c.past + c.ahead → ReadsText c text (Err (TooShort count))
  part_byte : IsChannelText c text → (count : ℕ) → HasWords c text count → c.p ≤ count * c.p % 8 → ReadsText c text (Err (PartByte count))
  reads : IsChannelText c text → (count : ℕ) → HasWords c text count → count * c.p % 8 < c.p
      → (file : List ℕ) → IsPlainFront c text file → ReadsText c text (Ok file)
