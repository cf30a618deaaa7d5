use Rattle.std.proofs.Common.{◌≡◌, ◌∷◌, ◌+◌, ◌∙◌, ℕ, List, sym, refl, ap, arith, subst, get_or}
use Rattle.std.proofs.lemmas.List.{take_all, get_or-replicate}
use Rattle.gf256.specs.Field.{IsElement, power, alpha}
use Rattle.gf256.specs.Linear.{values}
use Rattle.gf256.proofs.Lists.{at-values, length-values}
use Rattle.rs_code.specs.Polynomial.{value_at}
use Rattle.rs_code.specs.inside.PointTables.{IsMonomial}
use Rattle.rs_code.proofs.PointTables.{constant_values, tabled_more}
use Rattle.rs_code.proofs.monomials.Monomials.tabled_values.Goals as goal

pub loop-k-init : goal.loop-k-init
loop-k-init c = record {
  full = refl;
  summed = λ j h. get_or-replicate 16 j c.args.constant.value 0 h ∙ sym (constant_values c.args.constant.value (power alpha j) (values c.args.terms.now));
}

pub loop-k-preserved : goal.loop-k-preserved
loop-k-preserved c =
    let terms : List ℕ = values c.args.terms.now in
    let k : ℕ = c.loop-k.k in
    let is = sym (at-values c.args.terms.now k) in
    record {
      full = c.add_symbols.auto.word ∙ c.loop-k.invariant.full;
      summed = λ j h.
          ap (λ xs. get_or xs j 0) c.add_symbols.ensures
          ∙ tabled_more c.args.constant.value terms k c.loop-k.sums c.monomial.result (omega (arith, c.loop-k-test.true, length-values c.args.terms.now))
          (subst IsElement is c.monomial.ensures.element) c.loop-k.invariant.summed
          (subst (λ v. IsMonomial v (k + 1) c.monomial.result) is c.monomial.ensures.values) j h;
    }

pub returns : goal.returns
returns c = λ j h.
    let terms : List ℕ = values c.args.terms.now in
    subst (λ q. get_or c.loop-k.sums j 0 ≡ value_at (c.args.constant.value ∷ q) (power alpha j))
    (take_all c.loop-k.k terms (omega (arith, c.loop-k-test.false, length-values c.args.terms.now))) (c.loop-k.invariant.summed j h)
