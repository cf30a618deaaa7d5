use Rattle.std.proofs.Common.{◌<◌}
use Rattle.gf256.specs.Linear.{values}
use Rattle.rs_code.specs.inside.Division.{AreInARow}
use Rattle.rs_code.proofs.key_equation.key_pair.Given as goal

abbrev pub invariant-loop-here : goal.invariant-loop-here
invariant-loop-here l = record {
  row : AreInARow l.t (values l.sums) l.above l.here;
  enough : l.t < l.above.length;
}

abbrev pub decreases-loop-here : goal.decreases-loop-here
decreases-loop-here l = l.here.length
