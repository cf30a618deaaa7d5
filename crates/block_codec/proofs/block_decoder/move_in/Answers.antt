use Rattle.std.proofs.Common.{arith}
use Rattle.block_codec.specs.Decoding.{block_of}
use Rattle.block_codec.proofs.Comings.{moved_whole}
use Rattle.block_codec.proofs.block_decoder.move_in.Goals as goal

pub returns : goal.returns
returns c = moved_whole (block_of 0) c.args.window.now c.loop-i.window c.loop-i.i c.args.block c.requires c.loop-i.invariant.count (omega arith) c.loop-i.invariant.moved
