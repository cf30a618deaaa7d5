use Rattle.std.proofs.Common.{◌≡◌, ◌≢◌, ◌∙◌, ◌<◌, ℕ, List, refl, sym, ap, ap₂, arith, subst, length, length-set, below_more, get_or, get_or-set_same, get_or-set_other}
use Rattle.std.specs.Prelude.{All}
use Rattle.std.proofs.lemmas.List.Elements.{All-set, All-replicate}
use Rattle.gf256.specs.Field.{IsElement, times, inverse}
use Rattle.gf256.specs.Linear.{values}
use Rattle.gf256.proofs.Lists.{at-values, values-set, length-values}
use Rattle.rs_code.proofs.Steps.{at-zeros}
use Rattle.rs_code.proofs.errors.quotients.Goals as goal

pub loop-k-init : goal.loop-k-init
loop-k-init c = record {
  full = refl;
  elements = All-replicate IsElement 16 0 (omega arith);
  behind = λ j h. at-zeros 16 j;
  written = λ j h. absurd (omega (arith, h));
}

pub loop-k-preserved : goal.loop-k-preserved
loop-k-preserved c =
    let xs : List ℕ = values c.loop-k.quotients in
    let k : ℕ = c.loop-k.k in
    let found : ℕ = c.quotient.result.value in
    let over : ℕ → ℕ = λ (j : ℕ). get_or (values c.args.dividends.now) j 0 in
    let under : ℕ → ℕ = λ (j : ℕ). get_or (values c.args.divisors.now) j 0 in
    let written = values-set c.loop-k.quotients k c.quotient.result in
    let within : k < length xs = omega (arith, c.loop-k.invariant.full, c.loop-k-test.true, c.requires, length-values c.loop-k.quotients) in
    let under_is : under k ≡ (get_or c.args.divisors.now k (record { value = 0 })).value = at-values c.args.divisors.now k in
    record {
      full = length-set c.loop-k.quotients k c.quotient.result ∙ c.loop-k.invariant.full;
      elements = subst (All IsElement) (sym written) (All-set IsElement xs k found c.quotient.ensures.element c.loop-k.invariant.elements);
      behind = λ j h. let other : j ≢ k = omega (arith, h) in
          ap (λ ys. get_or ys j 0) written ∙ get_or-set_other xs k j found 0 other ∙ c.loop-k.invariant.behind j (omega (arith, h));
      written = below_more _ _
          (λ j h ne. let other : j ≢ k = omega arith in
          ap (λ ys. get_or ys j 0) written ∙ get_or-set_other xs k j found 0 other ∙ c.loop-k.invariant.written j h ne)
          (λ ne. ap (λ ys. get_or ys k 0) written ∙ get_or-set_same xs k found 0 within
          ∙ c.quotient.ensures.quotient (λ z. ne (under_is ∙ z))
          ∙ ap₂ (λ u v. times u (inverse v)) (sym (at-values c.args.dividends.now k)) (sym under_is));
    }
