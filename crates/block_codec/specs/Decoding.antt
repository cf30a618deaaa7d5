-- What has come to a decoder of blocks, and what it answers.
use Rattle.std.specs.Prelude.{◌≡◌, ℕ, ◌-◌, ◌<◌, ◌≤◌, Option, Some, None, List, ◌++◌, length, drop, replicate, min}
use Rattle.symbol_base.specs.declared.Block.{Block}
use Rattle.code_spec.specs.Code.{CodeData}
use Rattle.code_spec.specs.Decoder.{window_length, IsDecoded}
use Rattle.block_codec.specs.declared.block_decoder.BlockDecoder.{BlockDecoder}

-- the block of a value
abbrev pub block_of : ℕ → Block
block_of value = record { value = value }

-- a decoder that was made for a code holds as many blocks as its window has
pub record IsDecoderFor (c : CodeData) (decoder : BlockDecoder) : Type 0 where
  pub size : length decoder.window.items ≡ window_length c

-- so many of the last blocks, with blocks of 0s before the first
abbrev pub last_blocks : ℕ → List Block → List Block
last_blocks count came = drop (length came) (replicate count (block_of 0) ++ came)

-- The decoder holds the last blocks of those that have come, and knows how many they are.
pub record HasCome (c : CodeData) (decoder : BlockDecoder) (came : List Block) : Type 0 where
  pub last : decoder.window.items ≡ last_blocks (window_length c) came
  pub counted : decoder.count ≡ min (window_length c) (length came)

-- none while fewer blocks than a window's have come, and else the decoder's answer to the last window
abbrev pub IsAnswer : CodeData → List Block → Option ℕ → Type 0
IsAnswer c came None = length came < window_length c
IsAnswer c came (Some word) = (window_length c ≤ length came) × IsDecoded c (drop (length came - window_length c) came) word
