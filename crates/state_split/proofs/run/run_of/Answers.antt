use Rattle.std.proofs.Common.{ℕ, ◌<◌, List, length, sym, subst}
use Rattle.std.specs.Prelude.{All}
use Rattle.label_graphs.specs.declared.graph.Edge.{Edge}
use Rattle.state_split.specs.Views.{edges_data}
use Rattle.state_split.specs.inside.Agreeing.{NoneAgree}
use Rattle.state_split.proofs.RunMade.{no_run, ordered_inside}
use Rattle.state_split.proofs.run.run_of.Goals as goal

pub first_agreeing-requires-clause-inside : goal.first_agreeing-requires-clause-inside
first_agreeing-requires-clause-inside c =
    subst (λ (es : List (Edge ℕ)). All (λ (e : Edge ℕ). e.to < length c.args.weights.now) es) (sym c.deref.ensures.value)
    (ordered_inside c.args.weights.now c.args.row.now c.in_ok-ordered.ordered.items c.in_ok-ordered.ensures.ordered c.requires.inside)

pub run_at-requires-clause-inside : goal.run_at-requires-clause-inside
run_at-requires-clause-inside c =
    subst (λ (es : List (Edge ℕ)). All (λ (e : Edge ℕ). e.to < length c.args.weights.now) es) (sym c.deref-in-Some.ensures.value)
    (ordered_inside c.args.weights.now c.args.row.now c.in_ok-ordered.ordered.items c.in_ok-ordered.ensures.ordered c.requires.inside)

pub returns-clause-none : goal.returns-clause-none
returns-clause-none c = λ run y is.
    no_run c.args.n c.args.weights.now (edges_data c.args.row.now) (edges_data c.in_ok-ordered.ordered.items) run y c.in_ok-ordered.ensures.ordered
    (subst (λ (es : List (Edge ℕ)). NoneAgree c.args.n c.args.weights.now (edges_data es)) c.deref.ensures.value c.in-None.ensures.none) is
