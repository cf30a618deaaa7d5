use Rattle.std.proofs.Common.{◌≡◌, List, [], length, Bool, ap, sym, ◌∙◌, subst}
use Rattle.std.proofs.lemmas.Result.{IfOk-weaker}
use Rattle.label_graphs.specs.Kept.{marked_states}
use Rattle.label_graphs.specs.Sink.{IsLeastSink, IsSink}
use Rattle.sink_part.specs.inside.Leads.{IsTable}
use Rattle.sink_part.proofs.Sinks.{some_end, lightest_is_least}
use Rattle.sink_part.proofs.MarkedParts.{part_edges, part_weights_are, part_keeps_edges, part_meets}
use Rattle.sink_part.proofs.parts.sink.Goals as goal

pub unreachable-requires : goal.unreachable-requires
unreachable-requires c =
    let end = some_end c.args.graph.now c.args.weights.now c.in_ok-leads.leads (subst IsTable c.leads.view_is c.leads.invariant) c.in_ok-leads.ensures c.requires.sizes c.requires.nonzero in
    c.in-None.ensures.none end.0 end.1 end.2

pub returns-clause-least : goal.returns-clause-least
returns-clause-least c =
    let rows = c.args.graph.now in
    let weights = c.args.weights.now in
    let known = c.in_ok-leads.ensures in
    let least = lightest_is_least rows weights c.in_ok-leads.leads c.in-Some.state known.graph c.marks.ensures.kept known c.in-Some.ensures.some in
    IfOk-weaker c.marked_part.result _ _
    (λ s part. subst (IsLeastSink rows weights) (sym (part.parents_are ∙ ap marked_states c.marks.ensures.marks)) least) c.marked_part.ensures

pub returns-clause-edges : goal.returns-clause-edges
returns-clause-edges c =
    IfOk-weaker c.marked_part.result _ _ (λ s known. part_edges c.args.graph.now c.args.weights.now c.marks.result.now s.graph s.weights s.parents known) c.marked_part.ensures

pub returns-clause-weights : goal.returns-clause-weights
returns-clause-weights c =
    IfOk-weaker c.marked_part.result _ _ (λ s known. part_weights_are c.args.graph.now c.args.weights.now c.marks.result.now s.graph s.weights s.parents known) c.marked_part.ensures

pub returns-clause-parents : goal.returns-clause-parents
returns-clause-parents c =
    IfOk-weaker c.marked_part.result _ _ (λ s known. part_keeps_edges c.args.graph.now c.args.weights.now c.marks.result.now s.graph s.weights s.parents known) c.marked_part.ensures

pub returns-clause-inequality : goal.returns-clause-inequality
returns-clause-inequality c =
    let rows = c.args.graph.now in
    let weights = c.args.weights.now in
    let marks = c.marks.result.now in
    let known = c.in_ok-leads.ensures in
    let state = c.in-Some.state in
    let lightest = c.in-Some.ensures.some in
    let least = lightest_is_least rows weights c.in_ok-leads.leads state known.graph c.marks.ensures.kept known lightest in
    let sink = subst (λ (ms : List Bool). IsSink rows weights (marked_states ms)) (sym c.marks.ensures.marks) least.sink in
    let wide = c.marks.ensures.kept.square state [] lightest.inside in
    let marked : length marks ≡ length rows = ap (λ (ms : List Bool). length ms) c.marks.ensures.marks ∙ wide ∙ known.size in
    IfOk-weaker c.marked_part.result _ _
    (λ s part. part_meets rows weights marks s.graph s.weights s.parents c.args.n known.graph marked c.requires.sizes sink part c.requires.inequality)
    c.marked_part.ensures
