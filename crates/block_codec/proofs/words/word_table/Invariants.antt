use Rattle.block_codec.specs.inside.Tables.{one_word}
use Rattle.block_codec.proofs.EntryLaws.{HasEntries}
use Rattle.block_codec.proofs.words.word_table.Given as goal

-- the entries of the places so far are made
abbrev pub invariant-loop-place : goal.invariant-loop-place
invariant-loop-place l = HasEntries l.code one_word l.size l.table.lanes.items l.table.next.items l.place
