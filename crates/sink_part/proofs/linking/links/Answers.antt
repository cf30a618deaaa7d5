use Rattle.std.proofs.Common.{[], ◌∷◌, map, ap, sym, ◌∙◌, subst, arith}
use Rattle.std.proofs.lemmas.List.{map-append}
use Rattle.label_graphs.specs.Views.{edge_data, rows_data}
use Rattle.sink_part.specs.inside.Links.{AreLinks, AreMarkedTargets}
use Rattle.sink_part.proofs.LinkRows.{link_row, link_rows_more, links_are_graph, links_are_all}
use Rattle.sink_part.proofs.linking.links.Goals as goal

pub loop-state-preserved : goal.loop-state-preserved
loop-state-preserved c =
    let rows = c.args.graph.now in
    let weights = c.args.weights.now in
    let n = c.loop-state.state in
    let row = map (edge_data (λ name. name)) c.in_ok-links_to.field-0.items in
    let new = link_row rows weights n c.deref.result.now row
    (subst (AreMarkedTargets rows weights n) (sym c.deref.ensures.value) c.in_ok-targets.ensures) c.in_ok-links_to.ensures in
    link_rows_more rows weights (rows_data (λ name. name) c.loop-state.rows.items) (rows_data (λ name. name) c.push.new.self.items) n row c.loop-state.invariant new
    (ap (rows_data (λ name. name)) c.in_ok-push.ensures.items ∙ map-append (λ r. map (edge_data (λ name. name)) r.items) c.loop-state.rows.items (c.in_ok-links_to.field-0 ∷ []))

pub from_rows-requires : goal.from_rows-requires
from_rows-requires c =
    links_are_graph c.args.graph.now c.args.weights.now (rows_data (λ name. name) c.loop-state.rows.items) c.loop-state.state c.states-states.ensures.kept c.loop-state.invariant
    (omega (arith, c.loop-state-test.false, c.loop-state.auto.state-end, c.states-states.ensures.count))

pub returns : goal.returns
returns c =
    subst (AreLinks c.args.graph.now c.args.weights.now) (sym c.from_rows.ensures)
    (links_are_all c.args.graph.now c.args.weights.now (rows_data (λ name. name) c.loop-state.rows.items) c.loop-state.state c.states-states.ensures.kept c.loop-state.invariant
    (omega (arith, c.loop-state-test.false, c.loop-state.auto.state-end, c.states-states.ensures.count)))
