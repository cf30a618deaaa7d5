use Rattle.std.proofs.Common.{◌≡◌, true, sym, subst}
use Rattle.symbol_base.specs.Decimal.{IsDecimal}
use Rattle.symbol_base.proofs.DecimalLemmas.{IsDecimal-decimal}
use Rattle.symbol_base.proofs.decimals.decimal.Goals as goal

pub returns-else-has_shape-clause-none : goal.returns-else-has_shape-clause-none
returns-else-has_shape-clause-none c n below same =
    let shape : IsDecimal c.args.text.now = subst IsDecimal (sym same) (IsDecimal-decimal n below) in
    let shaped : c.has_shape.result ≡ true = c.has_shape.ensures.1 shape in
    cc
