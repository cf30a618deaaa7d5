use Rattle.std.proofs.Common.{length, arith}
use Rattle.label_graphs.specs.Vector.{row_sum}
use Rattle.franaszek.proofs.Products.{least_by}
use Rattle.franaszek.proofs.bound.least_bound.Goals as goal

pub returns-clause-least : goal.returns-clause-least
returns-clause-least c =
    let known = c.loop-high.invariant in
    least_by (row_sum c.args.matrix.now) (length c.args.matrix.now) c.args.n c.loop-high.low c.loop-high.high c.loop-high.best
    (omega (arith, known.order, c.loop-high-test.false)) known.best known.some known.none
