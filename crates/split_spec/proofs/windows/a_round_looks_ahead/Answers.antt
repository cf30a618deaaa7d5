use Rattle.split_spec.proofs.LooksAhead.{looks_ahead}
use Rattle.split_spec.proofs.windows.a_round_looks_ahead.Goals as goal

pub returns : goal.returns
returns g c =
    looks_ahead c.args.fine.now c.args.coarse.now c.args.parents.now c.args.past c.args.ahead c.requires.window c.requires.keeps c.requires.divides
