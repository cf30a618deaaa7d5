-- What has come to a decoder of texts, and what it answers.
use Rattle.std.specs.Prelude.{◌≡◌, ℕ, ◌+◌, ◌^◌, ◌≤◌, Option, Some, None, List, ◌++◌, length, Result, Ok, Err}
use Rattle.code_spec.specs.declared.fault.EndFault.{EndFault}
use Rattle.code_spec.specs.Code.{CodeData}
use Rattle.code_spec.specs.PlainReading.{IsChannelText, IsBadAt, ReadsText}
use Rattle.block_codec.specs.declared.fault.TextFault.{TextFault}
use Rattle.block_codec.specs.declared.fault.TextFault.TheVariants.{BadSymbol, NoMemory}
use Rattle.block_codec.specs.declared.text_decoder.TextDecoder.{TextDecoder}
use Rattle.block_codec.specs.inside.Readers.{IsReaderFor, HasText}

-- a decoder that was made for the code
pub record IsTextDecoderFor (c : CodeData) (decoder : TextDecoder) : Type 0 where
  pub reader : IsReaderFor c decoder.reader
  pub p : decoder.p ≡ c.p
  pub q : decoder.q ≡ c.q
  pub lead : decoder.lead ≡ c.past + c.ahead
  pub few : decoder.reader.count ≤ decoder.taken
  pub small : decoder.taken ≤ 2 ^ 40

-- how many bytes have come
abbrev pub bytes_come : TextDecoder → ℕ
bytes_come decoder = decoder.taken

-- with no bad byte so far, the decoder reads on; with one, it knows where the first stands
abbrev pub HasReadTo : CodeData → TextDecoder → List ℕ → Option ℕ → Type 0
HasReadTo c decoder text None = (bytes : List ℕ) × HasText c text bytes decoder.reader
HasReadTo c decoder text (Some at) = IsBadAt c text at

-- This text has come: the joined pieces that were taken, and behind them the first piece that held a bad byte.
pub record TextHasCome (c : CodeData) (decoder : TextDecoder) (text : List ℕ) : Type 0 where
  pub taken : bytes_come decoder ≡ length text
  pub read : HasReadTo c decoder text decoder.fault

-- What becomes of a piece. A piece with a bad byte has come too, but nothing that comes behind it.
pub data TakesText (c : CodeData) (old new : TextDecoder) (text piece : List ℕ) : Result (Unit {0}) TextFault → Type 0 where
  took : TextHasCome c new (text ++ piece) → IsChannelText c (text ++ piece) → TakesText c old new text piece (Ok tt)
  bad_here : (at : ℕ) → IsChannelText c text → TextHasCome c new (text ++ piece) → IsBadAt c (text ++ piece) at
      → TakesText c old new text piece (Err (BadSymbol at))
  bad_before : (at : ℕ) → IsBadAt c text at → new ≡ old → TakesText c old new text piece (Err (BadSymbol at))
  wanted_memory : IsChannelText c text → new ≡ old → TakesText c old new text piece (Err NoMemory)

-- the end of a text: how many bytes its file has, or what is wrong with it
pub data EndsText (c : CodeData) (text : List ℕ) : Result ℕ EndFault → Type 0 where
  ended : (file : List ℕ) → ReadsText c text (Ok file) → (count : ℕ) → count ≡ length file → EndsText c text (Ok count)
  refused_at_end : (fault : EndFault) → ReadsText c text (Err fault) → EndsText c text (Err fault)
