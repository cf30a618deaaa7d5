use Rattle.std.proofs.Common.{◌≡◌}
use Rattle.label_graphs.specs.inside.Numbers.{AreRanks, is_marked, rank}
use Rattle.label_graphs.proofs.kept.new_numbers.Given as goal

abbrev pub invariant-loop-mark : goal.invariant-loop-mark
invariant-loop-mark l = record {
  given : AreRanks (is_marked l.marks) l.mark-index l.numbers.items;
  next : l.next ≡ rank (is_marked l.marks) l.mark-index;
}
