use Rattle.std.proofs.Common.{◌+◌, ◌≤◌, length, take}
use Rattle.code_spec.specs.PlainText.{file_words}
use Rattle.block_codec.proofs.ItemLaws.{PutsByTable}
use Rattle.block_codec.proofs.bytes.put_bytes.Given as goal

-- the words of the bytes so far are put, and there is room for a lane more
abbrev pub invariant-loop-byte : goal.invariant-loop-byte
invariant-loop-byte l = record {
  by_table : PutsByTable l.code 256 l.fn.state (file_words l.code.p (take l.byte-index l.bytes)) 0 l.fn.room l.room l.at l.place;
  fits : l.at + 32 ≤ length l.room;
  entries : l.place + 256 ≤ length l.lanes;
}
