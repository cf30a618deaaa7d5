use Rattle.std.proofs.Common.{arith, ap, take, length-take, get_or, ◌∷◌, []}
use Rattle.rs_code.specs.inside.Errors.{weight}
use Rattle.rs_code.proofs.Moments.{weight-cons_nonzero}
use Rattle.rs_code.proofs.Steps.{weight_more, weight-le}
use Rattle.rs_code.proofs.sums.count_errors.Goals as goal
use Rattle.rs_code.proofs.sums.count_errors.Goals.{then-error-ne0, else-error-ne0}

pub overflow_add-count : goal.overflow_add-count
overflow_add-count c =
    omega (arith, c.loop-error.invariant, weight-le (take c.loop-error.error-index c.args.errors.now), length-take c.loop-error.error-index c.args.errors.now)

pub loop-error-preserved : goal.loop-error-preserved
loop-error-preserved c =
    elim c.if-error-ne0.branch [
      | then-error-ne0 w ↦ omega (
        arith,
        w.count-is,
        c.loop-error.invariant,
        weight_more c.args.errors.now c.loop-error.error-index (omega arith),
        weight-cons_nonzero (get_or c.args.errors.now c.loop-error.error-index 0) [] w.if-error-ne0.true,
      )
      | else-error-ne0 w ↦ omega (
        arith,
        w.count-is,
        c.loop-error.invariant,
        weight_more c.args.errors.now c.loop-error.error-index (omega arith),
        ap (λ n. weight (n ∷ [])) w.if-error-ne0.false,
      )
    ]
