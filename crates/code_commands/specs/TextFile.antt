-- A text that comes piece by piece, and what has come of it.
use Rattle.std.specs.Prelude.{◌≡◌, ℕ, List, length, Option, Some, None}
use Rattle.code_spec.specs.Code.{CodeData}
use Rattle.code_spec.specs.PlainReading.{IsBadAt, IsPlainFront}
use Rattle.block_codec.specs.TextDecoding.{IsTextDecoderFor, bytes_come, TextHasCome}
use Rattle.code_commands.specs.declared.text_file.IncomingText.{IncomingText}

-- it was made for the code, and as long as no byte was bad its decoder has taken all that has come
pub record IsIncomingFor (c : CodeData) (incoming : IncomingText) : Type 0 where
  pub decoder : IsTextDecoderFor c incoming.decoder
  pub taken : incoming.fault ≡ None → bytes_come incoming.decoder ≡ incoming.length

-- with no bad byte so far, the text has come to the decoder and given the file
pub record IsClean (c : CodeData) (text : List ℕ) (incoming : IncomingText) : Type 0 where
  pub come : TextHasCome c incoming.decoder text
  pub gave : IsPlainFront c text incoming.file.items

abbrev pub IsCleanOrBad : CodeData → List ℕ → IncomingText → Option ℕ → Type 0
IsCleanOrBad c text incoming None = IsClean c text incoming
IsCleanOrBad c text incoming (Some at) = IsBadAt c text at

-- this text has come
pub record HasCome (c : CodeData) (text : List ℕ) (incoming : IncomingText) : Type 0 where
  pub counted : incoming.length ≡ length text
  pub read : IsCleanOrBad c text incoming incoming.fault
