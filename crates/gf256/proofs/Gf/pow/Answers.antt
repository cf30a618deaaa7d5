use Rattle.std.proofs.Common.{arith, ap, ◌∙◌, sym}
use Rattle.gf256.specs.Field.{power}
use Rattle.gf256.proofs.FieldLaws.{power-zero, zero-power-ne_zero}
use Rattle.gf256.proofs.Logarithms.{power_by_logarithm}
use Rattle.gf256.proofs.Gf.pow.Goals as goal

pub returns-then-e-eq0 : goal.returns-then-e-eq0
returns-then-e-eq0 c = sym (ap (λ e. power c.args.self.value e) (omega arith) ∙ power-zero c.args.self.value)

pub returns-then-self-eq0 : goal.returns-then-self-eq0
returns-then-self-eq0 c = sym (ap (λ a. power a c.args.e) c.if-self-eq0.true ∙ zero-power-ne_zero c.args.e c.if-e-eq0.false)

pub returns : goal.returns
returns c =
    let known = power_by_logarithm c.args.self.value c.args.e (omega arith) (omega arith) in
    (cc)
