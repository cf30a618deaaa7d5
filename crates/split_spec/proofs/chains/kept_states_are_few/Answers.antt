use Rattle.split_spec.proofs.KeptStates.{few_kept, some_kept}
use Rattle.split_spec.proofs.chains.kept_states_are_few.Goals as goal

pub returns-clause-some : goal.returns-clause-some
returns-clause-some c = λ n g chain least weighted is some.
    some_kept n g chain is (c.rounds_keep_weights.ensures n g is.end chain.rounds is.end_parents least weighted is.rounds).0 some

pub returns-clause-few : goal.returns-clause-few
returns-clause-few c = λ n g chain least weighted is.
    let kept = c.rounds_keep_weights.ensures n g is.end chain.rounds is.end_parents least weighted is.rounds in
    few_kept n g chain is kept.0.weights.size (c.graphs_are_no_larger.ensures is.end kept.0.weights).0 kept.1
