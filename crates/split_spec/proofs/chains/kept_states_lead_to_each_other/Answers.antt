use Rattle.split_spec.proofs.KeptStates.{keep_ways, kept_joined}
use Rattle.split_spec.proofs.chains.kept_states_lead_to_each_other.Goals as goal

pub returns : goal.returns
returns c = λ n g chain some weighted joined is.
    let end = c.rounds_keep_weights.ensures n g is.end chain.rounds is.end_parents some weighted is.rounds in
    let ways = keep_ways c.a_round_keeps_weights.ensures c.a_round_keeps_ways.ensures n g is.end chain.rounds is.end_parents some weighted joined is.rounds in
    kept_joined n g chain is end.0 ways (c.kept_states_have_edges_enough.ensures.closed n g chain some weighted is)
