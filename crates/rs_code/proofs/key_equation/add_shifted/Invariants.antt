use Rattle.std.proofs.Common.{◌≡◌, take}
use Rattle.gf256.specs.Linear.{values}
use Rattle.rs_code.proofs.Division.{added}
use Rattle.rs_code.proofs.key_equation.add_shifted.Given as goal

abbrev pub invariant-loop-j : goal.invariant-loop-j
invariant-loop-j l = values l.to ≡ added (values l.initial.to) l.scale.value l.shift (take l.j (values l.from))
