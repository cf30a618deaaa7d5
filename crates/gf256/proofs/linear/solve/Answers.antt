use Rattle.std.proofs.Common.{◌≡◌, length, sym, ◌∙◌, arith, refl}
use Rattle.std.proofs.lemmas.Bool.{false≢true}
use Rattle.std.proofs.lemmas.List.{length-take-le}
use Rattle.gf256.proofs.Solutions.{IsOnlySolution-reduced, IsSingular-reduced}
use Rattle.gf256.proofs.linear.solve.Goals as goal

pub returns-then-reduce-unknowns-clause-singular : goal.returns-then-reduce-unknowns-clause-singular
returns-then-reduce-unknowns-clause-singular c =
    let reduced = c.reduce.ensures in
    (λ _. IsSingular-reduced c.args.r c.reduce.result c.args.rows.now c.reduce.new.rows c.if-reduce-unknowns.true reduced.units reduced.stuck reduced.elements reduced.same, λ _. refl)

pub returns-clause-vector : goal.returns-clause-vector
returns-clause-vector c =
    let reduced = c.reduce.ensures in
    let rows : length c.reduce.new.rows ≡ c.args.r = c.reduce.auto.rows ∙ length-take-le c.args.r c.args.rows.now (omega arith) in
    let solution = IsOnlySolution-reduced 32 c.args.r c.reduce.result c.args.rows.now c.reduce.new.rows c.copy_column.new.vector
    c.told-rows rows (omega arith) (omega arith) c.requires.fits c.copy_column.auto.vector
    reduced.same reduced.units reduced.elements_before reduced.elements c.copy_column.ensures.copied in
    solution.vector

pub returns-clause-solves : goal.returns-clause-solves
returns-clause-solves c =
    let reduced = c.reduce.ensures in
    let rows : length c.reduce.new.rows ≡ c.args.r = c.reduce.auto.rows ∙ length-take-le c.args.r c.args.rows.now (omega arith) in
    let solution = IsOnlySolution-reduced 32 c.args.r c.reduce.result c.args.rows.now c.reduce.new.rows c.copy_column.new.vector
    c.told-rows rows (omega arith) (omega arith) c.requires.fits c.copy_column.auto.vector
    reduced.same reduced.units reduced.elements_before reduced.elements c.copy_column.ensures.copied in
    solution.solves

pub returns-clause-only : goal.returns-clause-only
returns-clause-only c =
    let reduced = c.reduce.ensures in
    let rows : length c.reduce.new.rows ≡ c.args.r = c.reduce.auto.rows ∙ length-take-le c.args.r c.args.rows.now (omega arith) in
    let solution = IsOnlySolution-reduced 32 c.args.r c.reduce.result c.args.rows.now c.reduce.new.rows c.copy_column.new.vector
    c.told-rows rows (omega arith) (omega arith) c.requires.fits c.copy_column.auto.vector
    reduced.same reduced.units reduced.elements_before reduced.elements c.copy_column.ensures.copied in
    solution.only

pub returns-clause-singular : goal.returns-clause-singular
returns-clause-singular c =
    let reduced = c.reduce.ensures in
    let rows : length c.reduce.new.rows ≡ c.args.r = c.reduce.auto.rows ∙ length-take-le c.args.r c.args.rows.now (omega arith) in
    let solution = IsOnlySolution-reduced 32 c.args.r c.reduce.result c.args.rows.now c.reduce.new.rows c.copy_column.new.vector
    c.told-rows rows (omega arith) (omega arith) c.requires.fits c.copy_column.auto.vector
    reduced.same reduced.units reduced.elements_before reduced.elements c.copy_column.ensures.copied in
    (λ e. absurd (false≢true (sym e)), λ singular. absurd (solution.regular singular))
