use Rattle.std.specs.Str.Parse.{digits_value}
use Rattle.symbol_base.proofs.DecimalLemmas.{value_below, spelled_by_value, IsDecimal-decimal}
use Rattle.symbol_base.proofs.decimals.decimal_texts.Goals as goal

pub returns-clause-spells : goal.returns-clause-spells
returns-clause-spells c text shape = (digits_value 10 text, value_below text shape, spelled_by_value text shape)

pub returns-clause-spelled : goal.returns-clause-spelled
returns-clause-spelled c = IsDecimal-decimal
