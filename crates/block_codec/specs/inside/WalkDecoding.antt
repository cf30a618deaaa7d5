-- What has come to a decoder that keeps a walk.
use Rattle.std.specs.Prelude.{List}
use Rattle.symbol_base.specs.declared.Block.{Block}
use Rattle.code_spec.specs.Code.{CodeData}
use Rattle.block_codec.specs.Decoding.{IsDecoderFor, HasCome}
use Rattle.block_codec.specs.inside.Walking.{IsWalkOver}
use Rattle.block_codec.specs.declared.walk_decoder.WalkDecoder.{WalkDecoder}

-- a decoder that was made for a code holds a window of its blocks, and a walk over the last of them
pub record IsWalkDecoderFor (c : CodeData) (decoder : WalkDecoder) : Type 0 where
  pub blocks : IsDecoderFor c decoder.blocks
  pub walk : IsWalkOver c decoder.blocks.window.items decoder.walk

-- these blocks have come to it
abbrev pub HasComeBy : CodeData → WalkDecoder → List Block → Type 0
HasComeBy c decoder came = HasCome c decoder.blocks came
