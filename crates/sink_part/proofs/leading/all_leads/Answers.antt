use Rattle.std.proofs.lemmas.Result.{IfOk-weaker}
use Rattle.sink_part.proofs.LinkWalks.{reached_leads}
use Rattle.sink_part.proofs.leading.all_leads.Goals as goal

pub returns : goal.returns
returns c =
    IfOk-weaker c.reached_states.result _ _ (λ table reached. reached_leads c.args.graph.now c.args.weights.now c.in_ok-links.links table c.in_ok-links.ensures reached)
    c.reached_states.ensures
