use Rattle.std.proofs.Common.{arith, sym, subst}
use Rattle.gf256.specs.Field.{IsProduct}
use Rattle.gf256.proofs.FieldLaws.{IsProduct-inverse}
use Rattle.gf256.proofs.Logarithms.{LOGARITHMS-lt, inverse_by_logarithm}
use Rattle.gf256.proofs.Gf.inv.Goals as goal

pub overflow_sub-logarithm : goal.overflow_sub-logarithm
overflow_sub-logarithm c =
    let small = LOGARITHMS-lt c.args.self.value (omega arith) c.requires in
    omega arith

pub returns-clause-value : goal.returns-clause-value
returns-clause-value c =
    let known = inverse_by_logarithm c.args.self.value (omega arith) c.requires in
    (cc)

pub returns-clause-product : goal.returns-clause-product
returns-clause-product c =
    subst (λ b. IsProduct c.args.self.value b 1) (sym (returns-clause-value c))
    (IsProduct-inverse c.args.self.value (omega arith) c.requires)
