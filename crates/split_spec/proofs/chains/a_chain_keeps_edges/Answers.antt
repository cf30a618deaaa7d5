use Rattle.split_spec.proofs.ChainLast.{last_keeps}
use Rattle.split_spec.proofs.chains.a_chain_keeps_edges.Goals as goal

pub returns : goal.returns
returns c = λ n g chain some weighted is.
    last_keeps c.composed_refinements_keep_edges.ensures n g chain is
    (c.rounds_keep_weights.ensures n g is.end chain.rounds is.end_parents some weighted is.rounds).4
