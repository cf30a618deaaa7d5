use Rattle.std.proofs.Common.{arith, sym, subst}
use Rattle.gf256.specs.Field.{IsProduct}
use Rattle.gf256.proofs.FieldLaws.{IsProduct-times}
use Rattle.gf256.proofs.Logarithms.{LOGARITHMS-le, times_by_logarithms}
use Rattle.gf256.proofs.Gf.mul.Goals as goal

pub overflow_add-exponent : goal.overflow_add-exponent
overflow_add-exponent c =
    let a = LOGARITHMS-le c.args.self.value (omega arith) in
    let b = LOGARITHMS-le c.args.other.value (omega arith) in
    omega arith

pub alpha_power-requires : goal.alpha_power-requires
alpha_power-requires c =
    let a = LOGARITHMS-le c.args.self.value (omega arith) in
    let b = LOGARITHMS-le c.args.other.value (omega arith) in
    omega arith

pub returns-clause-value : goal.returns-clause-value
returns-clause-value c =
    let product = times_by_logarithms c.args.self.value c.args.other.value (omega arith) (omega arith) in
    (cc)

pub returns-clause-product : goal.returns-clause-product
returns-clause-product c =
    subst (IsProduct c.args.self.value c.args.other.value) (sym (returns-clause-value c))
    (IsProduct-times c.args.self.value c.args.other.value)
