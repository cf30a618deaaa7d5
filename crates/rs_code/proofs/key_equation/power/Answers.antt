use Rattle.std.proofs.Common.{◌∙◌, ◌-◌, replicate, arith}
use Rattle.gf256.proofs.Lists.{values-set}
use Rattle.rs_code.proofs.Division.{power_written}
use Rattle.rs_code.proofs.key_equation.power.Goals as goal

pub returns-clause-power : goal.returns-clause-power
returns-clause-power c =
    values-set (replicate 48 (record { value = 0 })) c.args.n (record { value = 1 })
    ∙ power_written c.args.n (47 - c.args.n) 48 (omega (arith, c.requires))
