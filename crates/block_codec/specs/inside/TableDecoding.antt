-- What has come to a decoder by a table.
use Rattle.std.specs.Prelude.{◌≡◌, ◌+◌, ◌*◌, ◌<◌, ◌≤◌, List, length, min}
use Rattle.symbol_base.specs.declared.Block.{Block}
use Rattle.code_spec.specs.Code.{CodeData}
use Rattle.code_spec.specs.Decoder.{window_length}
use Rattle.block_codec.specs.Decoding.{last_blocks}
use Rattle.block_codec.specs.inside.Answers.{HasShortWindows, IsAnswerTable, window_of, window_count}
use Rattle.block_codec.specs.inside.Fours.{HasFours}
use Rattle.block_codec.specs.declared.table_decoder.LastBlocks.{LastBlocks}
use Rattle.block_codec.specs.declared.table_decoder.TableDecoder.{TableDecoder}

-- the number of the last window's blocks is one of the code's, and no more of them have come than a window has
pub record AreLastBlocks (c : CodeData) (last : LastBlocks) : Type 0 where
  pub window : last.window < window_count c
  pub count : last.count ≤ window_length c

-- a decoder that was made for a code has its answers, and those to four windows too if it has any
pub record IsTableDecoderFor (c : CodeData) (decoder : TableDecoder) : Type 0 where
  pub short : HasShortWindows c
  pub answers : IsAnswerTable c decoder.answers.items
  pub fours : HasFours c decoder.fours.items
  pub last : AreLastBlocks c decoder.last

-- these are the last blocks of those that have come, and so many they are
pub record HaveComeLast (c : CodeData) (blocks : LastBlocks) (came : List Block) : Type 0 where
  pub last : window_of c blocks.window ≡ last_blocks (window_length c) came
  pub counted : blocks.count ≡ min (window_length c) (length came)

-- The decoder holds the last blocks of those that have come, and knows how many they are.
abbrev pub HasComeTo : CodeData → TableDecoder → List Block → Type 0
HasComeTo c decoder came = HaveComeLast c decoder.last came

-- all blocks of a window but the last have come, and a number of 64 digits holds them and eight more
pub record TakesEight (c : CodeData) (last : LastBlocks) : Type 0 where
  pub enough : window_length c ≤ last.count + 1
  pub fits : c.q * (window_length c + 7) < 64
