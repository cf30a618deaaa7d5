use Rattle.std.proofs.Common.{◌+◌, ◌∙◌, ◌<◌, ℕ, List, ap, arith, get_or, false}
use Rattle.std.proofs.lemmas.List.Elements.{All-get_or}
use Rattle.gf256.specs.Field.{IsElement}
use Rattle.gf256.specs.Linear.{values}
use Rattle.gf256.proofs.Lists.{length-values}
use Rattle.rs_code.specs.Polynomial.{value_at}
use Rattle.rs_code.specs.inside.Errors.{every_other}
use Rattle.rs_code.proofs.Roots.{value_at-take}
use Rattle.rs_code.proofs.Steps.{values-take, value_at-every_other}
use Rattle.rs_code.proofs.ErrorValues.{quotient_right}
use Rattle.rs_code.proofs.errors.error_values.Goals as goal

pub returns-clause-right : goal.returns-clause-right
returns-clause-right c = λ k h.
    let locator : List ℕ = values c.args.pair.now.locator in
    let evaluator : List ℕ = values c.args.pair.now.evaluator in
    let t : ℕ = c.args.t in
    let z : ℕ = get_or (values c.inverse_points-points.result) k 0 in
    let within : k < 16 = omega (arith, h, c.requires.few) in
    quotient_right locator evaluator (get_or c.args.exponents.now k 0) z (get_or (values c.odd_parts-slopes.result) k 0)
    (get_or (values c.values_at-evaluators.result) k 0) (get_or (values c.quotients.result) k 0)
    (c.inverse_points-points.ensures k h)
    (c.odd_parts-slopes.ensures.values k within
    ∙ ap (λ p. value_at (every_other false p) z) (values-take (t + 1) c.args.pair.now.locator) ∙ value_at-every_other (t + 1) false locator z c.requires.locator)
    (c.values_at-evaluators.ensures k within
    ∙ ap (λ p. value_at p z) (values-take t c.args.pair.now.evaluator) ∙ value_at-take t evaluator z c.requires.evaluator)
    (All-get_or IsElement (values c.odd_parts-slopes.result) k 0 (omega (arith, within, length-values c.odd_parts-slopes.result)) c.odd_parts-slopes.ensures.elements)
    (c.quotients.ensures.quotients k h)
