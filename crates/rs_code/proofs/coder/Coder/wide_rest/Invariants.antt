use Rattle.std.proofs.Common.{◌*◌, take}
use Rattle.rs_code.specs.inside.Register.{IsRest, register}
use Rattle.rs_code.proofs.coder.Coder.wide_rest.Given as goal

abbrev pub invariant-loop-s : goal.invariant-loop-s
invariant-loop-s l = IsRest l.self-inside.t (take (2 * l.s) l.symbols) (register l.high l.low)
