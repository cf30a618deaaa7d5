use Rattle.std.proofs.Common.{◌∙◌, ⊎_elim, ℕ, List, length, sym, ap, arith, get_or, below_more}
use Rattle.std.proofs.lemmas.Bool.{cases_lt, false≢true}
use Rattle.std.proofs.lemmas.List.{get_or_past}
use Rattle.std.proofs.lemmas.List.Elements.{All-get_or}
use Rattle.gf256.specs.Field.{IsElement, times, power, alpha}
use Rattle.gf256.specs.Linear.{values}
use Rattle.gf256.proofs.Lists.{at-values, length-values}
use Rattle.gf256.proofs.FieldLaws.{zero-times}
use Rattle.rs_code.proofs.Steps.{terms_moment, next_term, first_term, sum_of_terms_front}
use Rattle.rs_code.proofs.errors.have_sums.Goals as goal

pub loop-i-init : goal.loop-i-init
loop-i-init c = record {
  full = c.told-error_values;
  terms = λ k h.
      first_term (get_or (values c.args.error_values.now) k 0) (power alpha (get_or c.args.exponents.now k 0))
      (All-get_or IsElement (values c.args.error_values.now) k 0
      (omega (arith, h, c.requires.few, c.told-error_values, length-values c.args.error_values.now)) c.requires.elements);
  behind = c.requires.behind;
  right = λ k h. absurd (omega (arith, h));
}

pub loop-i-preserved : goal.loop-i-preserved
loop-i-preserved c =
    let ys : List ℕ = values c.args.error_values.now in
    let exponents : List ℕ = c.args.exponents.now in
    let i : ℕ = c.loop-i.i in
    record {
      full = omega arith;
      terms = λ k h.
          next_term (get_or (values c.loop-i.terms) k 0) (get_or (values c.products-terms.result) k 0) (power alpha (get_or exponents k 0)) (get_or ys k 0) i
          (c.products-terms.ensures.products k (omega (arith, h, c.requires.few)) ∙ ap (times (get_or (values c.loop-i.terms) k 0)) (c.points_of-points.ensures k h))
          (c.loop-i.invariant.terms k h);
      behind = λ k h.
          ⊎_elim
          (λ within. c.products-terms.ensures.products k within ∙ ap (λ v. times v (get_or (values c.points_of-points.result) k 0)) (c.loop-i.invariant.behind k h)
          ∙ zero-times (get_or (values c.points_of-points.result) k 0))
          (λ past. get_or_past (values c.products-terms.result) k 0 (omega (arith, past, length-values c.products-terms.result)))
          (cases_lt k 16);
      right = below_more _ _ c.loop-i.invariant.right
          (sym (terms_moment (values c.loop-i.terms) ys exponents i
          (omega (arith, c.requires.few, c.loop-i.invariant.full, length-values c.loop-i.terms))
          (omega (arith, c.requires.few, c.told-error_values, length-values c.args.error_values.now)) c.loop-i.invariant.terms)
          ∙ sum_of_terms_front (length exponents) (values c.loop-i.terms) c.loop-i.invariant.behind
          ∙ sym c.sum_of_all.ensures ∙ c.if-sum_of_all-sums.false ∙ sym (at-values c.args.sums.now i));
    }

pub returns-then-sum_of_all-sums : goal.returns-then-sum_of_all-sums
returns-then-sum_of_all-sums c =
    let ys : List ℕ = values c.args.error_values.now in
    let i : ℕ = c.loop-i.i in (
      (λ e. absurd (false≢true e)),
      (λ right. absurd (c.if-sum_of_all-sums.true
          (c.sum_of_all.ensures
          ∙ sym (sum_of_terms_front (length c.args.exponents.now) (values c.loop-i.terms) c.loop-i.invariant.behind)
          ∙ terms_moment (values c.loop-i.terms) ys c.args.exponents.now i
          (omega (arith, c.requires.few, c.loop-i.invariant.full, length-values c.loop-i.terms))
          (omega (arith, c.requires.few, c.told-error_values, length-values c.args.error_values.now)) c.loop-i.invariant.terms
          ∙ right i (omega (arith, c.loop-i-test.true)) ∙ at-values c.args.sums.now i))),
    )
