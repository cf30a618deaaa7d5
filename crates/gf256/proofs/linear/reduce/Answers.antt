use Rattle.std.proofs.Common.{inl, inr, arith, subst}
use Rattle.std.proofs.lemmas.Bool.{cases_eq}
use Rattle.gf256.specs.Linear.{matrix}
use Rattle.gf256.specs.Elimination.{HasElements}
use Rattle.gf256.proofs.NullSpaces.{SameNullSpace-chain}
use Rattle.gf256.proofs.linear.reduce.Goals as goal

pub loop-column-preserved : goal.loop-column-preserved
loop-column-preserved g c =
    let old = c.args.rows.now in
    let before = c.loop-column.invariant in
    let step = c.eliminate.ensures in
    record {
      same = SameNullSpace-chain (matrix old) (matrix c.loop-column.rows) (matrix c.eliminate.new.rows) before.same step.null_space;
      units = step.units before.units;
      start = λ e. absurd (omega arith);
      elements_before = λ h.
          elim (cases_eq c.loop-column.column 0) as (λ _. HasElements (matrix old)) [
            | inl first ↦ subst (λ rows. HasElements (matrix rows)) (before.start first) step.elements_before
            | inr later ↦ before.elements_before (omega arith)
          ];
      elements = λ h. step.elements;
    }
