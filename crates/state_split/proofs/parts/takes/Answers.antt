use Rattle.std.proofs.Common.{sym, subst}
use Rattle.std.specs.Prelude.{◌↔◌, IsTrue}
use Rattle.std.proofs.Math.Bool.{not}
use Rattle.label_graphs.specs.Views.{edge_data}
use Rattle.state_split.specs.declared.parts.Part.{Part}
use Rattle.state_split.specs.inside.Parts.{IsTakenBy}
use Rattle.std.proofs.lemmas.Bool.Decides.{Decides-not}
use Rattle.state_split.proofs.parts.takes.Goals as goal

pub returns-in-First : goal.returns-in-First
returns-in-First c = λ row run listed.
    subst (λ (part : Part). IsTrue c.is_in_run.result ↔ IsTakenBy part c.args.split.now.run (edge_data (λ name. name) c.args.edge.now)) (sym c.in-First.is)
    (c.is_in_run.ensures row run listed)

pub returns-in-Second : goal.returns-in-Second
returns-in-Second c = λ row run listed.
    let test = c.is_in_run-in-Second.result in
    subst (λ (part : Part). IsTrue (not test) ↔ IsTakenBy part c.args.split.now.run (edge_data (λ name. name) c.args.edge.now)) (sym c.in-Second.is)
    (Decides-not test (c.is_in_run-in-Second.ensures row run listed))
