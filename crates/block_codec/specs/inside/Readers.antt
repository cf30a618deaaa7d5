-- What a reader of symbols knows of those that have come.
use Rattle.std.specs.Prelude.{◌≡◌, ℕ, ◌+◌, ◌<◌, false, Option, Some, None, List, [], ◌∷◌, ◌++◌, length, take, slice_index}
use Rattle.symbol_base.specs.declared.Block.{Block}
use Rattle.code_spec.specs.Code.{CodeData}
use Rattle.code_spec.specs.Decoder.{AreDecoded}
use Rattle.code_spec.specs.PlainReading.{is_blank, IsDigit, IsChannelText, symbols_in, AreBlocksOf, AreBytesOf}
use Rattle.block_codec.specs.declared.part.Part.{Part}
use Rattle.block_codec.specs.declared.reader.Reader.{Reader}
use Rattle.block_codec.specs.declared.table_decoder.TableDecoder.{TableDecoder}
use Rattle.block_codec.specs.declared.window_decoder.WindowDecoder.{WindowDecoder}
use Rattle.block_codec.specs.declared.window_decoder.WindowDecoder.TheVariants.{Short}
use Rattle.block_codec.specs.inside.Packing.{HasRows}
use Rattle.block_codec.specs.inside.Parts.{IsPart, Holds}
use Rattle.block_codec.specs.inside.WindowDecoding.{IsMadeFor, HaveCome}

-- a reader that was made for the code
pub record IsReaderFor (c : CodeData) (reader : Reader) : Type 0 where
  pub blocks : IsMadeFor c reader.blocks
  pub symbols : IsPart c.q reader.symbols
  pub bits : IsPart 8 reader.bits
  pub digits : HasRows 256 reader.digits.items

-- the bits of the words are those of the bytes and those that are held
pub record HoldsBits (p : ℕ) (words bytes : List ℕ) (bits : Part) : Type 0 where
  pub rest : List ℕ
  pub filled : AreBytesOf p words bytes rest
  pub held : Holds bits rest

-- these blocks have come, and their answers gave these bytes
pub record HasDecoded (c : CodeData) (blocks : List Block) (bytes : List ℕ) (decoder : WindowDecoder) (bits : Part) : Type 0 where
  pub came : HaveCome c decoder blocks
  pub words : List ℕ
  pub decoded : AreDecoded c blocks words
  pub gave : HoldsBits c.p words bytes bits

-- these symbols have come, and gave these bytes
pub record HasSymbols (c : CodeData) (symbols bytes : List ℕ) (reader : Reader) : Type 0 where
  pub blocks : List Block
  pub rest : List ℕ
  pub cut : AreBlocksOf c symbols blocks rest
  pub held : Holds reader.symbols rest
  pub decoded : HasDecoded c blocks bytes reader.blocks reader.bits

-- this text has come, and gave these bytes
pub record HasText (c : CodeData) (text bytes : List ℕ) (reader : Reader) : Type 0 where
  pub clean : IsChannelText c text
  pub counted : reader.count ≡ length (symbols_in text)
  pub symbols : HasSymbols c (symbols_in text) bytes reader

-- the byte of an option, if any
abbrev pub listed : Option ℕ → List ℕ
listed None = []
listed (Some byte) = byte ∷ []

-- bytes are put behind the others
pub record IsFrontOf (old new : List ℕ) : Type 0 where
  pub more : List ℕ
  pub is : new ≡ old ++ more

-- a byte that is neither a digit nor passed over
pub record IsBadByte (c : CodeData) (byte : ℕ) : Type 0 where
  pub seen : is_blank byte ≡ false
  pub bad : IsDigit c byte → ⊥

-- more text has come, and gave more bytes
pub record GoesOn (c : CodeData) (text bytes more : List ℕ) (old new : List ℕ) (reader : Reader) : Type 0 where
  pub given : List ℕ
  pub appended : new ≡ old ++ given
  pub reads : HasText c (text ++ more) (bytes ++ given) reader

-- the reader with another decoder by a table, to which so many symbols more have come
abbrev pub later_reader : Reader → TableDecoder → ℕ → Reader
later_reader reader decoder count = record {
  blocks = Short decoder;
  symbols = reader.symbols;
  bits = reader.bits;
  digits = reader.digits;
  count = reader.count + count;
}

-- A decoder by a table takes the digits at the front of a piece for a reader that holds it, and no symbols or bits: the
-- text of the reader goes on by them.
abbrev pub TakesGroups : CodeData → TableDecoder → TableDecoder → List ℕ → ℕ → List ℕ → List ℕ → Type 0
TakesGroups c decoder later piece at old new = (text bytes : List ℕ) (reader : Reader) → reader.blocks ≡ Short decoder
    → reader.symbols.count ≡ 0 → reader.bits.count ≡ 0 → HasText c text bytes reader
    → GoesOn c text bytes (take at piece) old new (later_reader reader later at)

-- the whole piece has come; or it has a byte that is neither a digit nor passed over, the first at this place
pub record StopsAt (c : CodeData) (piece : List ℕ) (at : ℕ) : Type 0 where
  pub inside : at < length piece
  pub before : IsChannelText c (take at piece)
  pub bad : IsBadByte c (slice_index piece at)

abbrev pub TakesPiece : CodeData → List ℕ → List ℕ → List ℕ → List ℕ → List ℕ → Reader → Option ℕ → Type 0
TakesPiece c text bytes piece old new reader None = GoesOn c text bytes piece old new reader
TakesPiece c text bytes piece old new reader (Some at) = StopsAt c piece at
