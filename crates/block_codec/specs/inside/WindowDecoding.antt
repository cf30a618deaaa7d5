-- What has come to a decoder of a code's windows, of whichever kind.
use Rattle.std.specs.Prelude.{List}
use Rattle.symbol_base.specs.declared.Block.{Block}
use Rattle.code_spec.specs.Code.{CodeData}
use Rattle.block_codec.specs.inside.TableDecoding.{IsTableDecoderFor, HasComeTo}
use Rattle.block_codec.specs.inside.WalkDecoding.{IsWalkDecoderFor, HasComeBy}
use Rattle.block_codec.specs.declared.window_decoder.WindowDecoder.{WindowDecoder}
use Rattle.block_codec.specs.declared.window_decoder.WindowDecoder.TheVariants.{Short, Long}

-- a decoder that was made for the code
abbrev pub IsMadeFor : CodeData → WindowDecoder → Type 0
IsMadeFor c (Short decoder) = IsTableDecoderFor c decoder
IsMadeFor c (Long decoder) = IsWalkDecoderFor c decoder

-- these blocks have come to it
abbrev pub HaveCome : CodeData → WindowDecoder → List Block → Type 0
HaveCome c (Short decoder) came = HasComeTo c decoder came
HaveCome c (Long decoder) came = HasComeBy c decoder came
