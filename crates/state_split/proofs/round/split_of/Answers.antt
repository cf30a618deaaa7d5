use Rattle.std.proofs.Common.{ℕ, List, Option, length, get_or, ap, sym, ◌∙◌, subst, arith}
use Rattle.std.specs.Prelude.{IfSome, IfNone}
use Rattle.label_graphs.specs.Graph.{EdgeData}
use Rattle.label_graphs.proofs.Renumbered.{targets_inside}
use Rattle.split_spec.specs.Run.{IsRun}
use Rattle.state_split.specs.Views.{edges_data, weighted}
use Rattle.state_split.specs.declared.run.Run.{Run}
use Rattle.state_split.proofs.SplitsFound.{no_light_split, no_runless_split, no_heavy_split}
use Rattle.state_split.proofs.round.split_of.Goals.{in_default-via-in-Some+else-branch-weight, in_default-via-in_default}
use Rattle.state_split.proofs.round.split_of.Goals as goal

pub returns-then-weight-lt2-clause-none : goal.returns-then-weight-lt2-clause-none
returns-then-weight-lt2-clause-none c = λ split found.
    let weight = c.at-weight.ensures ∙ ap (λ s. get_or c.args.weights.now s 0) c.index.ensures.value in
    let light = c.if-weight-lt2.true in
    let same = ap (λ s. get_or c.args.weights.now s 0) found.0 in
    no_light_split c.args.n (weighted c.args.graph.now c.args.weights.now) split c.row-row.ensures.kept c.requires.size c.requires.positive (omega (arith, weight, light, same)) found.1

pub run_of-requires-clause-inside : goal.run_of-requires-clause-inside
run_of-requires-clause-inside c =
    targets_inside (λ name. name) c.args.graph.now c.args.state (length c.args.weights.now) c.row-row.result.now c.row-row.ensures.edges c.row-row.ensures.kept (sym c.requires.size)

pub returns-in_default-clause-none : goal.returns-in_default-clause-none
returns-in_default-clause-none c = elim c.in_default.branch [
  | in_default-via-in-Some+else-branch-weight w ↦ λ split found.
      let weight = c.at-weight.ensures ∙ ap (λ s. get_or c.args.weights.now s 0) c.index.ensures.value in
      let heavy = w.if-branch-weight.false in
      let known = subst (λ (o : Option Run). IfSome o (λ run. IsRun c.args.n c.args.weights.now (edges_data c.row-row.result.now) (edges_data run.edges.items) run.y)) w.in-Some.is c.in_ok-run.ensures.some in
      no_heavy_split c.args.n c.args.state w.in-Some.run'.y (weighted c.args.graph.now c.args.weights.now) (edges_data c.row-row.result.now) (edges_data w.in-Some.run'.edges.items)
      c.row-row.ensures.edges known (omega (arith, weight, heavy)) split found
  | in_default-via-in_default w ↦ λ split found.
      let none = subst (λ (o : Option Run). IfNone o ((run : List EdgeData) (y : ℕ) → IsRun c.args.n c.args.weights.now (edges_data c.row-row.result.now) run y → ⊥)) w.in_default.is c.in_ok-run.ensures.none in
      no_runless_split c.args.n c.args.state (weighted c.args.graph.now c.args.weights.now) (edges_data c.row-row.result.now) c.row-row.ensures.edges none split found
]
