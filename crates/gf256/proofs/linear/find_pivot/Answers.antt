use Rattle.std.proofs.Common.{◌≡◌, ℕ, inl, inr, get_or, ◌∙◌, sym, subst, arith, [], eqb}
use Rattle.std.proofs.lemmas.Bool.{cases_eq, eqb-true, not-false}
use Rattle.gf256.specs.Linear.{matrix}
use Rattle.gf256.specs.Elimination.{entry}
use Rattle.gf256.proofs.Lists.{entry-matrix}
use Rattle.gf256.proofs.linear.find_pivot.Goals as goal

pub loop-i-preserved : goal.loop-i-preserved
loop-i-preserved g c =
    let value : ℕ = (get_or (get_or c.args.rows.now c.loop-i.i []) c.args.column (record { value = 0 })).value in
    let zero_here : entry (matrix c.args.rows.now) c.loop-i.i c.args.column ≡ 0 =
    entry-matrix c.args.rows.now c.loop-i.i c.args.column ∙ eqb-true value 0 (not-false (eqb value 0) (sym c.if-ne.ensures)) in
    λ k from below.
    elim (cases_eq k c.loop-i.i) as (λ _. entry (matrix c.args.rows.now) k c.args.column ≡ 0) [
      | inl here ↦ subst (λ j. entry (matrix c.args.rows.now) j c.args.column ≡ 0) (sym here) zero_here
      | inr elsewhere ↦ c.loop-i.invariant k from (omega arith)
    ]
