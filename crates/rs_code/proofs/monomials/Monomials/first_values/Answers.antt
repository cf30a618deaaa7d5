use Rattle.std.proofs.Common.{◌≡◌, ◌+◌, ◌*◌, ◌∙◌, ap, arith}
use Rattle.gf256.specs.Field.{power, alpha}
use Rattle.gf256.specs.Linear.{values}
use Rattle.rs_code.specs.Polynomial.{value_at}
use Rattle.rs_code.proofs.monomials.Monomials.first_values.Goals as goal

pub returns-then-half-eq0 : goal.returns-then-half-eq0
returns-then-half-eq0 c = λ j h.
    let first : 16 * 0 + j ≡ 16 * c.args.half + j = omega (arith, c.if-half-eq0.true) in
    c.values_at.ensures j h
    ∙ ap (value_at (values c.args.polynomial.now)) (c.self.invariant.3 j h ∙ ap (power alpha) first)

pub returns-else-half-eq0 : goal.returns-else-half-eq0
returns-else-half-eq0 c = λ j h.
    let next : 16 * 1 + j ≡ 16 * c.args.half + j = omega (arith, c.if-half-eq0.false, c.requires) in
    c.values_at-else-half-eq0.ensures j h
    ∙ ap (value_at (values c.args.polynomial.now)) (c.self.invariant.4 j h ∙ ap (power alpha) next)
