use Rattle.std.proofs.Common.{subst, sym}
use Rattle.gf256.specs.Field.{IsElement}
use Rattle.gf256.specs.Linear.{matrix}
use Rattle.gf256.proofs.FieldLaws.{inverse-lt}
use Rattle.gf256.proofs.UnitColumns.{EliminatesColumn-from, EliminatesColumn-Eliminates}
use Rattle.gf256.proofs.linear.eliminate.Goals as goal

pub returns : goal.returns
returns g c =
    let column = c.args.column in
    let pivot = c.args.pivot in
    let factor = c.inv-inverse.result.value in
    let factor_in : IsElement factor = subst IsElement (sym c.inv-inverse.ensures.value) (inverse-lt _) in
    let steps = EliminatesColumn-from column pivot factor c.args.rows.now c.swap.new.self c.clear_others.new.rows c.scale.new.row
    c.requires.from c.requires.within c.swap.ensures.after factor_in c.inv-inverse.ensures.product
    c.scale.ensures.product c.scale.ensures.elements c.clear_others.ensures in
    EliminatesColumn-Eliminates column pivot factor (matrix c.args.rows.now) (matrix c.swap.new.self) (matrix c.clear_others.new.rows) steps
