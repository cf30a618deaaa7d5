use Rattle.std.proofs.Common.{◌≡◌, map}
use Rattle.label_graphs.specs.inside.Numbers.{is_marked, passing}
use Rattle.label_graphs.proofs.kept.marked_names.Given as goal

abbrev pub invariant-loop-state : goal.invariant-loop-state
invariant-loop-state g l = map (g.N.Name.number) l.names.items ≡ passing (is_marked l.marks) l.state
