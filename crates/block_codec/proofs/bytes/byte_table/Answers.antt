use Rattle.std.proofs.Common.{arith}
use Rattle.block_codec.specs.inside.Tables.{byte_words}
use Rattle.block_codec.proofs.EntryLaws.{entries_all}
use Rattle.block_codec.proofs.bytes.byte_table.Goals as goal

pub returns : goal.returns
returns c = record {
  bytes = c.requires;
  table = entries_all c.args.code.now (byte_words c.args.code.now.p) 256 c.loop-place.table.lanes.items c.loop-place.table.next.items c.loop-place.place
      c.state_count-entries.ensures.table (omega (arith, c.state_count-entries.ensures.count)) c.loop-place.invariant;
}
