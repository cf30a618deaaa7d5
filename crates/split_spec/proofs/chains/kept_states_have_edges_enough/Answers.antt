use Rattle.split_spec.proofs.ChainEnd.{edges_enough, kept_closed}
use Rattle.split_spec.proofs.chains.kept_states_have_edges_enough.Goals as goal

pub returns-clause-edges : goal.returns-clause-edges
returns-clause-edges c = λ n g chain some weighted is.
    edges_enough n g chain is (c.rounds_keep_weights.ensures n g is.end chain.rounds is.end_parents some weighted is.rounds).0

pub returns-clause-closed : goal.returns-clause-closed
returns-clause-closed c = λ n g chain some weighted is.
    kept_closed n g chain is (c.rounds_keep_weights.ensures n g is.end chain.rounds is.end_parents some weighted is.rounds).0
