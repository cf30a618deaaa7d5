use Rattle.std.proofs.Common.{◌<◌, length, ap}
use Rattle.label_graphs.specs.Graph.{EdgeData}
use Rattle.label_graphs.specs.Views.{edge_data}
use Rattle.split_spec.specs.Round.{SplitData}
use Rattle.state_split.proofs.PartEdges.{AreEnds, are_ends, first_inside, last_inside, told_between, told_outside}
use Rattle.state_split.proofs.parts.is_in_run.Goals.{In-Some-Some}
use Rattle.state_split.proofs.parts.is_in_run.Goals as goal

-- the two edges are the first and the last of the run
ends : (c : In-Some-Some)
    → AreEnds c.args.split.now.run (edge_data (λ name. name) c.in-Some-Some.first.now) (edge_data (λ name. name) c.in-Some-Some.last.now)
ends c =
    let found = c.in-Some-Some in
    are_ends c.args.split.now.run c.split.inside.run.items c.deref.result.now c.deref-2.result.now found.first.now found.last.now
    (ap (λ (s : SplitData). s.run) c.split.view_is) c.deref.ensures.value c.deref-2.ensures.value
    found.ensures.item.3.0 found.ensures.item.1 found.ensures'.item.1

pub is_lighter-requires-clause-other_inside : goal.is_lighter-requires-clause-other_inside
is_lighter-requires-clause-other_inside c =
    first_inside (λ (e : EdgeData). e.to < length c.args.weights.now) c.args.split.now.run _ _ (ends c) c.requires.run_inside

pub is_lighter-requires-then-not-is_lighter-clause-inside :
    goal.is_lighter-requires-then-not-is_lighter-clause-inside
is_lighter-requires-then-not-is_lighter-clause-inside c =
    let found = (goal.at.is_lighter-requires-then-not-is_lighter-clause-inside c).In-Some-Some in
    last_inside (λ (e : EdgeData). e.to < length c.args.weights.now) c.args.split.now.run _ _ (ends found) c.requires.run_inside

pub returns-then-not-is_lighter : goal.returns-then-not-is_lighter
returns-then-not-is_lighter c =
    told_between c.args.weights.now c.args.split.now _ _ (edge_data (λ name. name) c.args.edge.now) c.is_lighter.result c.is_lighter-then-not-is_lighter.result
    (ends (goal.at.returns-then-not-is_lighter c).In-Some-Some) c.if-not-is_lighter.true c.is_lighter.ensures c.is_lighter-then-not-is_lighter.ensures

pub returns-else-not-is_lighter : goal.returns-else-not-is_lighter
returns-else-not-is_lighter c =
    told_outside c.args.weights.now c.args.split.now _ _ (edge_data (λ name. name) c.args.edge.now) c.is_lighter.result
    (ends (goal.at.returns-else-not-is_lighter c).In-Some-Some) c.if-not-is_lighter.false c.is_lighter.ensures
