use Rattle.std.proofs.Common.{◌≡◌, ◌∙◌, ◌+◌, ℕ, List, sym, refl, ap, ap₂, arith, set, take, get_or, add-one}
use Rattle.std.proofs.lemmas.List.{take_all}
use Rattle.gf256.specs.Field.{plus, times}
use Rattle.gf256.specs.Linear.{values}
use Rattle.gf256.proofs.FieldLaws.{times_comm}
use Rattle.gf256.proofs.Lists.{at-values, values-set, length-values}
use Rattle.rs_code.proofs.Division.{added, added_more, none_added}
use Rattle.rs_code.proofs.key_equation.add_shifted.Goals as goal

pub loop-j-init : goal.loop-j-init
loop-j-init c =
    sym (none_added (values c.args.to.now) c.args.scale.value c.args.shift (omega (arith, c.requires, length-values c.args.to.now)))

pub loop-j-preserved : goal.loop-j-preserved
loop-j-preserved c =
    let old : List ℕ = values c.args.to.now in
    let now : List ℕ = values c.loop-j.to in
    let from : List ℕ = values c.args.from.now in
    let scale : ℕ = c.args.scale.value in
    let j : ℕ = c.loop-j.j in
    let n : ℕ = c.args.shift + j in
    let value : c.add.result.value ≡ plus (get_or now n 0) (times scale (get_or from j 0)) =
    c.add.ensures.value ∙ ap₂ (λ u v. plus u v) (sym (at-values c.loop-j.to n)) (c.mul_by_doubling.ensures.value ∙ ap (λ v. times v scale) (sym (at-values c.args.from.now j)) ∙ times_comm (get_or from j 0) scale) in
    values-set c.loop-j.to n c.add.result ∙ ap (set now n) value
    ∙ ap (λ xs. set xs n (plus (get_or xs n 0) (times scale (get_or from j 0)))) c.loop-j.invariant
    ∙ added_more old from scale c.args.shift j n refl (omega (arith, c.requires, c.loop-j-test.true, length-values c.args.to.now))
    (omega (arith, c.loop-j-test.true, length-values c.args.from.now))
    ∙ ap (λ i. added old scale c.args.shift (take i from)) (sym (add-one j))

pub returns : goal.returns
returns c =
    c.loop-j.invariant
    ∙ ap (added (values c.args.to.now) c.args.scale.value c.args.shift)
    (take_all c.loop-j.j (values c.args.from.now) (omega (arith, c.loop-j-test.false, length-values c.args.from.now)))
