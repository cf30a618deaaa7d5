use Rattle.block_codec.proofs.FourLaws.{MadeFours}
use Rattle.block_codec.proofs.fours.four_table.Given as goal

-- the first entries are made
abbrev pub invariant-loop-here : goal.invariant-loop-here
invariant-loop-here l = MadeFours l.code l.here l.table.items
