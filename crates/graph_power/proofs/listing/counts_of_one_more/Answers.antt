use Rattle.std.proofs.Common.{◌≡◌, length, ap, sym, ◌∙◌, subst, arith}
use Rattle.label_graphs.specs.Cover.{CoverData, KeepsSymbols}
use Rattle.label_graphs.specs.Graph.{IsGraph}
use Rattle.label_graphs.proofs.Renumbered.{targets_inside}
use Rattle.graph_power.proofs.Steps.{row_few, seen_row, word_counts_more}
use Rattle.graph_power.proofs.listing.counts_of_one_more.Goals as goal

pub sum_at_targets-count-requires-clause-few : goal.sum_at_targets-count-requires-clause-few
sum_at_targets-count-requires-clause-few c =
    let cover = c.args.cover.now in
    let known : KeepsSymbols cover = subst (λ (x : CoverData). KeepsSymbols x) c.cover.view_is c.cover.invariant in
    let graph : IsGraph cover.graph = subst (λ (x : CoverData). IsGraph x.graph) c.cover.view_is c.states-states.ensures.kept in
    row_few cover c.row.result.now c.loop-state.state known graph
    (seen_row _ cover c.row.result.now c.at.result c.loop-state.state c.cover.view_is c.at.ensures.again c.row.ensures.edges)

pub sum_at_targets-count-requires-clause-inside : goal.sum_at_targets-count-requires-clause-inside
sum_at_targets-count-requires-clause-inside c =
    let cover = c.args.cover.now in
    let graph : IsGraph cover.graph = subst (λ (x : CoverData). IsGraph x.graph) c.cover.view_is c.states-states.ensures.kept in
    targets_inside (λ name. name) cover.graph c.loop-state.state (length c.args.counts.now) c.row.result.now
    (seen_row _ cover c.row.result.now c.at.result c.loop-state.state c.cover.view_is c.at.ensures.again c.row.ensures.edges) graph (sym c.requires.size)

pub returns : goal.returns
returns c = λ q counts.
    let cover = c.args.cover.now in
    let n = length cover.graph in
    let graph : IsGraph cover.graph = subst (λ (x : CoverData). IsGraph x.graph) c.cover.view_is c.states-states.ensures.kept in
    let old = c.loop-state.invariant in
    let count : c.states-states.result ≡ n = c.states-states.ensures.count ∙ ap (λ (x : CoverData). length x.graph) c.cover.view_is in
    let end : c.loop-state.state ≡ n = omega (arith, count, c.loop-state-test.false, c.loop-state.auto.state-end) in
    word_counts_more cover.graph c.args.counts.now c.loop-state.more.items q graph counts (old.size ∙ end)
    (λ from from_in. old.each from (omega (arith, from_in, end)))
