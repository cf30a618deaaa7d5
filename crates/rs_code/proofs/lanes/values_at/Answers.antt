use Rattle.std.proofs.Common.{◌≡◌, ◌∙◌, ◌-◌, ◌+◌, ℕ, sym, ap, arith, drop, List, length, get_or, replicate}
use Rattle.std.proofs.lemmas.List.{drop_all}
use Rattle.gf256.specs.Field.{plus, times}
use Rattle.gf256.specs.Linear.{values}
use Rattle.gf256.proofs.Lists.{at-values, length-values}
use Rattle.rs_code.specs.Polynomial.{value_at}
use Rattle.rs_code.proofs.Roots.{at_zeros}
use Rattle.rs_code.proofs.Steps.{evaluate_more, zeros_replicate}
use Rattle.rs_code.proofs.lanes.values_at.Goals as goal

pub loop-k-init : goal.loop-k-init
loop-k-init c = λ j h.
    at_zeros (replicate 16 0) j (zeros_replicate 16)
    ∙ sym (ap (λ p. value_at p (get_or (values c.args.points.now) j 0))
    (drop_all (length c.args.polynomial.now - 0) (values c.args.polynomial.now) (omega (arith, length-values c.args.polynomial.now))))

pub loop-k-preserved : goal.loop-k-preserved
loop-k-preserved c = λ j h.
    let p : List ℕ = values c.args.polynomial.now in
    let n : ℕ = length c.args.polynomial.now in
    let k : ℕ = c.loop-k.k in
    let x : ℕ = get_or (values c.args.points.now) j 0 in
    let v : ℕ = get_or (values c.loop-k.now) j 0 in
    let here : n - 1 - k ≡ n - (k + 1) = omega arith in
    let next : n - k ≡ n - 1 - k + 1 = omega (arith, c.loop-k-test.true) in
    c.horner_step-now.ensures j h
    ∙ ap (plus (times v x)) (sym (at-values c.args.polynomial.now (n - 1 - k)))
    ∙ evaluate_more p x (n - 1 - k) v (omega (arith, c.loop-k-test.true, length-values c.args.polynomial.now))
    (c.loop-k.invariant j h ∙ ap (λ i. value_at (drop i p) x) next)
    ∙ ap (λ i. value_at (drop i p) x) here

pub returns : goal.returns
returns c = λ j h.
    let end : length c.args.polynomial.now - c.loop-k.k ≡ 0 = omega (arith, c.loop-k-test.false) in
    c.loop-k.invariant j h ∙ ap (λ i. value_at (drop i (values c.args.polynomial.now)) (get_or (values c.args.points.now) j 0)) end
