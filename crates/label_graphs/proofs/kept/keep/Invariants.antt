use Rattle.std.proofs.Common.{◌≡◌}
use Rattle.label_graphs.specs.Views.{rows_data}
use Rattle.label_graphs.specs.inside.Numbers.{is_marked, kept_rows}
use Rattle.label_graphs.proofs.kept.keep.Given as goal

abbrev pub invariant-loop-state : goal.invariant-loop-state
invariant-loop-state g l =
    rows_data (g.N.Name.number) l.rows.items ≡ kept_rows (is_marked l.marks) l.graph l.state
