use Rattle.std.proofs.Common.{◌≡◌, length, ◌∙◌, arith}
use Rattle.std.proofs.lemmas.List.{length-take-le}
use Rattle.gf256.proofs.NullVectors.{IsNullVector-from}
use Rattle.gf256.proofs.linear.null_vector.Goals as goal

pub returns-clause-vector : goal.returns-clause-vector
returns-clause-vector c =
    let reduced = c.reduce-column in
    let rows : length reduced.new.rows ≡ c.args.t = reduced.auto.rows ∙ length-take-le c.args.t c.args.rows.now (omega arith) in
    (IsNullVector-from 17 c.args.t reduced.result c.args.rows.now reduced.new.rows c.copy_column.new.vector rows (omega arith) (omega arith)
    c.copy_column.auto.vector reduced.ensures.same reduced.ensures.units reduced.ensures.stuck reduced.ensures.elements c.copy_column.ensures.copied).vector

pub returns-clause-nonzero : goal.returns-clause-nonzero
returns-clause-nonzero c =
    let reduced = c.reduce-column in
    let rows : length reduced.new.rows ≡ c.args.t = reduced.auto.rows ∙ length-take-le c.args.t c.args.rows.now (omega arith) in
    (IsNullVector-from 17 c.args.t reduced.result c.args.rows.now reduced.new.rows c.copy_column.new.vector rows (omega arith) (omega arith)
    c.copy_column.auto.vector reduced.ensures.same reduced.ensures.units reduced.ensures.stuck reduced.ensures.elements c.copy_column.ensures.copied).nonzero

pub returns-clause-annihilated : goal.returns-clause-annihilated
returns-clause-annihilated c =
    let reduced = c.reduce-column in
    let rows : length reduced.new.rows ≡ c.args.t = reduced.auto.rows ∙ length-take-le c.args.t c.args.rows.now (omega arith) in
    (IsNullVector-from 17 c.args.t reduced.result c.args.rows.now reduced.new.rows c.copy_column.new.vector rows (omega arith) (omega arith)
    c.copy_column.auto.vector reduced.ensures.same reduced.ensures.units reduced.ensures.stuck reduced.ensures.elements c.copy_column.ensures.copied).annihilated
