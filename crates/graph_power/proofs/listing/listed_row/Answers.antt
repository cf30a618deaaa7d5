use Rattle.std.proofs.Common.{arith}
use Rattle.graph_power.proofs.Totals.{power_le}
use Rattle.graph_power.proofs.listing.listed_row.Goals as goal

pub read_on-requires-clause-fits : goal.read_on-requires-clause-fits
read_on-requires-clause-fits c =
    let power = power_le c.args.cover.now.alphabet c.args.q 20 c.requires.four c.requires.twenty in omega (arith, power)
