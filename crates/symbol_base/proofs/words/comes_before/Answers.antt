use Rattle.symbol_base.proofs.WordOrder.{test_tells}
use Rattle.symbol_base.proofs.words.comes_before.Goals as goal

pub returns-clause-order : goal.returns-clause-order
returns-clause-order c = test_tells c.args.first.now c.args.second.now c.is_shorter_or_smaller.result c.is_shorter_or_smaller.ensures
