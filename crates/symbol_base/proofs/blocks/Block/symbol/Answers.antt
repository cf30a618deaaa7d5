use Rattle.std.proofs.Common.{arith, ◌-◌}
use Rattle.symbol_base.proofs.BlockLemmas.{power_positive, symbol_by_division, symbol_of_two, symbol_of_four, weight_fits}
use Rattle.symbol_base.proofs.blocks.Block.symbol.Goals as goal

pub pow-requires : goal.pow-requires
pow-requires c = rw c.from.ensures (weight_fits c.args.alphabet (c.args.q - 1 - c.args.at) (omega arith) (omega arith) (omega arith))

pub nonzero_div-result : goal.nonzero_div-result
nonzero_div-result c = rw (c.pow.ensures, c.from.ensures) (power_positive c.args.alphabet (c.args.q - 1 - c.args.at) (omega arith))

pub returns-in-2-clause-value : goal.returns-in-2-clause-value
returns-in-2-clause-value c = symbol_of_two c.args.alphabet c.args.q c.args.self.value c.args.at c.in-2.is c.requires.inside

pub returns-in-4-clause-value : goal.returns-in-4-clause-value
returns-in-4-clause-value c = symbol_of_four c.args.alphabet c.args.q c.args.self.value c.args.at c.in-4.is c.requires.inside

pub returns-in_default-clause-value : goal.returns-in_default-clause-value
returns-in_default-clause-value c = rw (c.pow.ensures, c.from.ensures, c.from-in_default.ensures) (symbol_by_division c.args.alphabet c.args.q c.args.self.value c.args.at c.requires.inside)
