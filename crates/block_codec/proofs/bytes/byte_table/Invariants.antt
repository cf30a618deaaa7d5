use Rattle.block_codec.specs.inside.Tables.{byte_words}
use Rattle.block_codec.proofs.EntryLaws.{HasEntries}
use Rattle.block_codec.proofs.bytes.byte_table.Given as goal

-- the entries of the places so far are made
abbrev pub invariant-loop-place : goal.invariant-loop-place
invariant-loop-place l = HasEntries l.code (byte_words l.code.p) 256 l.table.lanes.items l.table.next.items l.place
