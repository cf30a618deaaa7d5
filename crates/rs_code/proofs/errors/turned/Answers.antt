use Rattle.std.proofs.Common.{◌≡◌, ◌≢◌, ◌∙◌, ◌-◌, ◌+◌, ◌<◌, ◌≤◌, ℕ, List, sym, ap, arith, length, length-set, get_or, get_or-set_same, get_or-set_other, below_more, subst, ⊎_elim}
use Rattle.std.proofs.lemmas.Bool.{cases_lt}
use Rattle.std.proofs.lemmas.List.Elements.{All-from_get_or}
use Rattle.gf256.specs.Field.{IsElement}
use Rattle.gf256.specs.Linear.{values}
use Rattle.gf256.proofs.Lists.{at-values, values-set, length-values}
use Rattle.rs_code.proofs.Words.{elements_of}
use Rattle.rs_code.proofs.Roots.{value_at-same, reversal, at-reversal, at-reversal_past, value_at-reversal}
use Rattle.rs_code.proofs.Division.{at_all}
use Rattle.rs_code.proofs.errors.turned.Goals as goal

pub loop-k-preserved : goal.loop-k-preserved
loop-k-preserved c =
    let xs : List ℕ = values c.loop-k.turned in
    let k : ℕ = c.loop-k.k in
    let here = get_or c.args.polynomial.now (c.args.t - k) (record { value = 0 }) in
    let within : k < length xs = omega (arith, c.loop-k.invariant.full, c.loop-k-test.true, c.requires.most, length-values c.loop-k.turned) in
    record {
      full = length-set c.loop-k.turned k here ∙ c.loop-k.invariant.full;
      written = below_more _ _
          (λ j h. let ne : j ≢ k = omega arith in
          ap (λ ys. get_or ys j 0) (values-set c.loop-k.turned k here) ∙ get_or-set_other xs k j here.value 0 ne ∙ c.loop-k.invariant.written j h)
          (ap (λ ys. get_or ys k 0) (values-set c.loop-k.turned k here) ∙ get_or-set_same xs k here.value 0 within
          ∙ sym (at-values c.args.polynomial.now (c.args.t - k)));
      left = λ j h.
          let ne : j ≢ k = omega arith in
          ap (λ ys. get_or ys j 0) (values-set c.loop-k.turned k here) ∙ get_or-set_other xs k j here.value 0 ne ∙ c.loop-k.invariant.left j (omega (arith, h));
    }

pub returns-clause-vector : goal.returns-clause-vector
returns-clause-vector c =
    let p : List ℕ = values c.args.polynomial.now in
    let end : c.loop-k.k ≡ c.args.t + 1 = omega (arith, c.loop-k-test.false) in
    record {
      full = length-values c.loop-k.turned ∙ c.loop-k.invariant.full;
      elements = All-from_get_or IsElement (values c.loop-k.turned) 0
          (λ j _. ⊎_elim
          (λ (below : j < c.loop-k.k). subst IsElement (sym (c.loop-k.invariant.written j below)) (at_all p (c.args.t - j) (elements_of p c.requires.elements)))
          (λ (past : c.loop-k.k ≤ j). let none : get_or (values c.loop-k.turned) j 0 ≡ 0 = c.loop-k.invariant.left j past in omega (arith, none))
          (cases_lt j c.loop-k.k));
      zeros = λ j h. c.loop-k.invariant.left j (omega (arith, h, end));
    }

pub returns-clause-nonzero : goal.returns-clause-nonzero
returns-clause-nonzero c =
    let p : List ℕ = values c.args.polynomial.now in
    let t : ℕ = c.args.t in
    let i : ℕ = c.requires.nonzero.0 in
    ⊎_elim
    (λ (below : i < t + 1).
    let same : t - (t - i) ≡ i = omega (arith, below) in
    (t - i, λ z. c.requires.nonzero.1 (sym (c.loop-k.invariant.written (t - i) (omega (arith, c.loop-k-test.false)) ∙ ap (λ j. get_or p j 0) same) ∙ z)))
    (λ (past : t + 1 ≤ i). absurd (c.requires.nonzero.1 (c.requires.degree i past)))
    (cases_lt i (t + 1))

pub returns-clause-value : goal.returns-clause-value
returns-clause-value c = λ x x_in ne.
    let p : List ℕ = values c.args.polynomial.now in
    let t : ℕ = c.args.t in
    value_at-same (values c.loop-k.turned) (reversal t p) x
    (λ j. ⊎_elim
    (λ (below : j < c.loop-k.k).
    c.loop-k.invariant.written j below ∙ sym (at-reversal t p j (t - j) (omega (arith, below, c.loop-k.auto))))
    (λ (past : c.loop-k.k ≤ j).
    c.loop-k.invariant.left j past ∙ sym (at-reversal_past t p j (omega (arith, past, c.loop-k-test.false))))
    (cases_lt j c.loop-k.k))
    ∙ value_at-reversal t p x x_in ne (elements_of p c.requires.elements) (λ k h. c.requires.degree k (omega (arith, h)))
