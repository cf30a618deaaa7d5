use Rattle.std.proofs.Common.{◌+◌, length}
use Rattle.split_spec.proofs.ChainLast.{last_window}
use Rattle.split_spec.proofs.chains.a_chain_looks_ahead.Goals as goal

pub returns : goal.returns
returns c = λ n a r g chain some weighted is window.
    last_window n g chain is a (r + length chain.rounds)
    (c.rounds_look_ahead.ensures n a r g is.end chain.rounds is.end_parents some weighted is.rounds window)
