use Rattle.std.proofs.Common.{ℕ, ◌<◌, get_or}
use Rattle.code_check.specs.inside.ByBlock.{no_word}
use Rattle.code_check.specs.inside.Meets.{Meets}
use Rattle.code_check.proofs.meets.meets.Given as goal

abbrev pub invariant-loop-at : goal.invariant-loop-at
invariant-loop-at l = (k : ℕ) → k < l.at → Meets l.arcs l.states l.pairs l.fn.item (get_or l.list k no_word) → ⊥
