use Rattle.std.proofs.Common.{◌+◌, ◌^◌, ◌≤◌, length}
use Rattle.block_codec.proofs.ItemLaws.{PutsByTable, words_to}
use Rattle.block_codec.proofs.words.put_rest.Given as goal

-- the words so far are put, and there is room for a lane more
abbrev pub invariant-loop-j : goal.invariant-loop-j
invariant-loop-j l = record {
  by_table : PutsByTable l.code (2 ^ l.code.p) l.fn.state (words_to l.code.p l.bytes l.j) l.fn.at l.fn.room l.room l.at l.place;
  fits : l.at + 32 ≤ length l.room;
  entries : l.place + 2 ^ l.code.p ≤ length l.lanes;
}
