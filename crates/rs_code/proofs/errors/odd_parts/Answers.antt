use Rattle.std.proofs.Common.{◌≡◌, ◌∙◌, ◌-◌, ◌*◌, ◌/◌, ◌+◌, length, ℕ, List, sym, ap, ap₂, arith, drop, get_or, false, replicate}
use Rattle.gf256.specs.Field.{plus, times}
use Rattle.gf256.specs.Linear.{values}
use Rattle.gf256.proofs.Lists.{at-values, length-values}
use Rattle.gf256.proofs.FieldLaws.{zero-times}
use Rattle.rs_code.specs.Polynomial.{value_at}
use Rattle.rs_code.specs.inside.Errors.{every_other}
use Rattle.rs_code.proofs.Roots.{at_zeros}
use Rattle.rs_code.proofs.Steps.{odd_last, odd_more, zeros_replicate}
use Rattle.rs_code.proofs.errors.odd_parts.Goals as goal

pub loop-k-init : goal.loop-k-init
loop-k-init c = λ j h.
    let p : List ℕ = values c.args.polynomial.now in
    let x : ℕ = get_or (values c.args.points.now) j 0 in
    ap (λ v. times v x) (at_zeros (replicate 16 0) j (zeros_replicate 16)) ∙ zero-times x
    ∙ sym (odd_last p (2 * (length c.args.polynomial.now / 2 - 0)) x (omega (arith, length-values c.args.polynomial.now)))

pub loop-k-preserved : goal.loop-k-preserved
loop-k-preserved c = λ j h.
    let p : List ℕ = values c.args.polynomial.now in
    let terms : ℕ = length c.args.polynomial.now / 2 in
    let k : ℕ = c.loop-k.k in
    let x : ℕ = get_or (values c.args.points.now) j 0 in
    let v : ℕ = get_or (values c.loop-k.now) j 0 in
    let at : ℕ = 2 * (terms - (k + 1)) in
    let same : at + 2 ≡ 2 * (terms - k) = omega (arith, c.loop-k-test.true) in
    let place : 2 * (terms - k) - 1 ≡ at + 1 = omega (arith, c.loop-k-test.true) in
    ap (λ v. times v x)
    (c.horner_step-now.ensures j h
    ∙ ap₂ (λ u w. plus (times v u) w) (c.products-squares.ensures.products j h)
    (sym (at-values c.args.polynomial.now (2 * (terms - k) - 1)) ∙ ap (λ i. get_or p i 0) place))
    ∙ odd_more p at v x (omega (arith, c.loop-k-test.true, length-values c.args.polynomial.now))
    (c.loop-k.invariant j h ∙ ap (λ i. value_at (every_other false (drop i p)) x) (sym same))

pub returns-clause-values : goal.returns-clause-values
returns-clause-values c = λ j h.
    let p : List ℕ = values c.args.polynomial.now in
    let end : 2 * (length c.args.polynomial.now / 2 - c.loop-k.k) ≡ 0 = omega (arith, c.loop-k-test.false) in
    c.products.ensures.products j h ∙ c.loop-k.invariant j h
    ∙ ap (λ i. value_at (every_other false (drop i p)) (get_or (values c.args.points.now) j 0)) end
