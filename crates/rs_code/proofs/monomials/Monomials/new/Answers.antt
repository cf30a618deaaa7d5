use Rattle.std.proofs.Common.{◌≡◌, ◌+◌, ◌∙◌, sym, ap, arith}
use Rattle.gf256.specs.Field.{times, power, alpha}
use Rattle.gf256.proofs.FieldLaws.{one-times, power-lt, power-add}
use Rattle.rs_code.proofs.monomials.Monomials.new.Goals as goal

pub invariant_of-result : goal.invariant_of-result
invariant_of-result c = (
  c.table.ensures,
  c.table-2.ensures,
  c.powers_of_step.ensures,
  (λ j h. c.progression.ensures j h ∙ one-times (power alpha j) (power-lt alpha j)
      ∙ ap (power alpha) (let same : j ≡ 0 + j = omega arith in same)),
  (λ j h. c.progression-2.ensures j h ∙ ap (λ v. times v (power alpha j)) c.pow.ensures ∙ sym (power-add alpha 16 j)),
)
