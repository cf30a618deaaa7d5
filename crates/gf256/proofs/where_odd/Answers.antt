use Rattle.std.proofs.Common.{◌≡◌, ◌∙◌, ◌%◌, sym, ap, arith}
use Rattle.gf256.specs.Field.{times}
use Rattle.gf256.proofs.FieldLaws.{one-times, zero-times}
use Rattle.gf256.proofs.where_odd.Goals as goal

pub returns-then-number-eq1 : goal.returns-then-number-eq1
returns-then-number-eq1 c = sym (ap (λ n. times n c.args.element) c.if-number-eq1.true ∙ one-times c.args.element (omega arith))

pub returns-else-number-eq1 : goal.returns-else-number-eq1
returns-else-number-eq1 c =
    let even : c.args.number % 2 ≡ 0 = omega (arith, c.if-number-eq1.false) in
    sym (ap (λ n. times n c.args.element) even ∙ zero-times c.args.element)
