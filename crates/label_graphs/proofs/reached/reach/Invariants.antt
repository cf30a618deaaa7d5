use Rattle.std.proofs.Common.{◌-◌, map, length}
use Rattle.label_graphs.specs.inside.Found.{Marked, HasFound, AreFollowed}
use Rattle.label_graphs.proofs.reached.reach.Given as goal

abbrev pub invariant-loop-at : goal.invariant-loop-at
invariant-loop-at g l =
    let number = g.N.Name.number in
    record {
      found : HasFound l.graph (number l.fn.from) l.marks.items (map number l.found.items);
      followed : AreFollowed l.graph l.marks.items (map number l.found.items) l.at;
      begun : Marked l.marks.items (number l.fn.from);
    }

abbrev pub decreases-loop-at : goal.decreases-loop-at
decreases-loop-at g l = length l.graph - l.at
