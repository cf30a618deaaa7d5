use Rattle.std.proofs.Common.{◌≡◌, ◌-◌, ◌<◌, ◌≤◌, ◌∙◌, ℕ, ap, arith, get_or, ⊎_elim}
use Rattle.std.proofs.lemmas.Bool.{cases_lt}
use Rattle.gf256.specs.Linear.{values}
use Rattle.gf256.proofs.Lists.{at-values}
use Rattle.rs_code.proofs.key_equation.length_of.Goals as goal

pub loop-length-preserved : goal.loop-length-preserved
loop-length-preserved c =
    let last : ℕ = c.loop-length.length - 1 in
    record {
      within = omega arith;
      degree = λ k h. ⊎_elim
          (λ (below : k < c.loop-length.length).
          ap (λ i. get_or (values c.args.coefficients.now) i 0) (let e : k ≡ last = omega arith in e)
          ∙ at-values c.args.coefficients.now last ∙ c.if-coefficients-length-eq0.true)
          (λ (past : c.loop-length.length ≤ k). c.loop-length.invariant.degree k past)
          (cases_lt k c.loop-length.length);
    }
