use Rattle.block_codec.specs.inside.Answers.{IsFilledBy}
use Rattle.block_codec.proofs.answers.answer_table.Given as goal

-- the walks so far put their words to the windows that they write
abbrev pub invariant-loop-walk : goal.invariant-loop-walk
invariant-loop-walk l = IsFilledBy l.code l.walk l.table.items
