use Rattle.std.proofs.Common.{◌+◌, ◌*◌, ◌/◌, ◌%◌, arith, refl, sym, subst}
use Rattle.rs_code.specs.inside.PointTables.{IsMonomial}
use Rattle.rs_code.proofs.PointTables.{monomial_of_halves, row_of_table}
use Rattle.rs_code.proofs.monomials.Monomials.monomial.Goals as goal

pub returns-clause-values : goal.returns-clause-values
returns-clause-values c =
    let v = c.args.coefficient.value in
    let place = c.args.place in
    let lower : IsMonomial (1 * (v % 16)) (place + 1) c.copy_from_slice.new.self =
    subst (IsMonomial (1 * (v % 16)) (place + 1)) (sym c.copy_from_slice.ensures.after)
    (row_of_table 1 c.self.inside.lower place (v % 16) (256 * place + 16 * (v % 16)) _ c.self.invariant.0 c.requires (omega arith) refl (omega arith)) in
    subst (IsMonomial v (place + 1)) (sym c.add_symbols.ensures)
    (monomial_of_halves v (place + 1) c.copy_from_slice.new.self _ (omega arith) lower
    (row_of_table 16 c.self.inside.upper place (v / 16) (256 * place + 16 * (v / 16)) _ c.self.invariant.1 c.requires (omega arith) refl (omega arith)))
