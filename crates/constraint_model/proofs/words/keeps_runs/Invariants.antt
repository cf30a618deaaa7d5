use Rattle.std.proofs.Common.{◌-◌, length, drop}
use Rattle.constraint_model.specs.inside.Front.{IsRead}
use Rattle.constraint_model.proofs.words.keeps_runs.Given as goal

abbrev pub invariant-loop-symbol : goal.invariant-loop-symbol
invariant-loop-symbol l =
    (goal.iterator-loop-symbol).can_next l.symbol-iterator
    × (goal.iterator-loop-symbol).is_finite l.symbol-iterator
    × IsRead l.limits l.front (drop (length l.word - length l.yielded) l.word)
