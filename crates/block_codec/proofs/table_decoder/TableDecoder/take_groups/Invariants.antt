use Rattle.std.proofs.Common.{◌≡◌, ◌+◌, ◌-◌, ◌≤◌, length}
use Rattle.std.specs.Prelude.{vec_len, vec_capacity}
use Rattle.block_codec.specs.inside.Readers.{IsFrontOf, TakesGroups}
use Rattle.block_codec.specs.inside.TableDecoding.{AreLastBlocks, TakesEight}
use Rattle.block_codec.proofs.table_decoder.TableDecoder.take_groups.Given as goal

abbrev pub invariant-loop-blocks : goal.invariant-loop-blocks
invariant-loop-blocks l = record {
  last : AreLastBlocks l.code l.last;
  eight : TakesEight l.code l.last;
  within : l.at ≤ length l.piece;
  len : vec_len l.out ≤ vec_len l.fn.out + l.at;
  capacity : vec_capacity l.out ≡ vec_capacity l.fn.out;
  front : IsFrontOf l.fn.out.items l.out.items;
  groups : TakesGroups l.code l.fn.self (record { answers = l.fn.self.answers; fours = l.fn.self.fours; last = l.last }) l.piece l.at l.fn.out.items l.out.items;
}

abbrev pub decreases-loop-blocks : goal.decreases-loop-blocks
decreases-loop-blocks l = length l.piece - l.at
