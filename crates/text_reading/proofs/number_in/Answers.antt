use Rattle.text_reading.proofs.Numbers.{number_in_is}
use Rattle.text_reading.proofs.number_in.Goals as goal

pub returns : goal.returns
returns c = number_in_is c.args.text.now c.decimal.result c.decimal.ensures.value c.decimal.ensures.none
