use Rattle.std.proofs.Common.{◌≡◌, List, [], length, get_or, ap, sym, ◌∙◌, subst, arith}
use Rattle.std.proofs.lemmas.List.{length-map}
use Rattle.label_graphs.specs.Cover.{CoverData, KeepsSymbols}
use Rattle.label_graphs.specs.Graph.{EdgeData, IsGraph}
use Rattle.label_graphs.specs.Matrix.{entry_at}
use Rattle.label_graphs.specs.Views.{matrix_data}
use Rattle.label_graphs.proofs.Renumbered.{targets_inside}
use Rattle.graph_power.specs.inside.Words.{target_total}
use Rattle.graph_power.proofs.Steps.{counts_more, entries_push, row_few, seen_row, size_push, square_push}
use Rattle.graph_power.proofs.counting.of_one_symbol_more.Goals as goal

pub added_rows-requires-clause-few : goal.added_rows-requires-clause-few
added_rows-requires-clause-few c =
    let cover = c.args.cover.now in
    let known : KeepsSymbols cover = subst (λ (x : CoverData). KeepsSymbols x) c.cover.view_is c.cover.invariant in
    let graph : IsGraph cover.graph = subst (λ (x : CoverData). IsGraph x.graph) c.cover.view_is c.states-states.ensures.kept in
    row_few cover c.row.result.now c.loop-state.state known graph
    (seen_row _ cover c.row.result.now c.at.result c.loop-state.state c.cover.view_is c.at.ensures.again c.row.ensures.edges)

pub added_rows-requires-clause-inside : goal.added_rows-requires-clause-inside
added_rows-requires-clause-inside c =
    let cover = c.args.cover.now in
    let graph : IsGraph cover.graph = subst (λ (x : CoverData). IsGraph x.graph) c.cover.view_is c.states-states.ensures.kept in
    targets_inside (λ name. name) cover.graph c.loop-state.state (length c.args.counts.now) c.row.result.now
    (seen_row _ cover c.row.result.now c.at.result c.loop-state.state c.cover.view_is c.at.ensures.again c.row.ensures.edges) graph (sym c.requires.size)

pub loop-state-preserved : goal.loop-state-preserved
loop-state-preserved c =
    let cover = c.args.cover.now in
    let M = matrix_data c.args.counts.now in
    let n = length cover.graph in
    let state = c.loop-state.state in
    let old = c.loop-state.invariant in
    let rows = c.loop-state.more.items in
    let grown = c.in_ok-push.ensures.items in
    let new = c.in_ok-row.ensures in
    let wide : length M ≡ n = length-map c.args.counts.now (λ row. row.items) ∙ c.requires.size in
    let is = seen_row _ cover c.row.result.now c.at.result state c.cover.view_is c.at.ensures.again c.row.ensures.edges in
    record {
      size = size_push rows c.push.new.self.items c.in_ok-row.row state grown old.size;
      square = square_push n rows c.push.new.self.items c.in_ok-row.row grown (new.size ∙ wide) old.square;
      each = entries_push (λ from to. target_total (λ s. entry_at M s to) (get_or cover.graph from [])) n state rows c.push.new.self.items c.in_ok-row.row grown old.size old.each
          (λ to to_in. new.each to (omega (arith, to_in, wide)) ∙ ap (λ (es : List EdgeData). target_total (λ s. entry_at M s to) es) is);
    }

pub returns : goal.returns
returns c = λ q counts.
    let cover = c.args.cover.now in
    let n = length cover.graph in
    let graph : IsGraph cover.graph = subst (λ (x : CoverData). IsGraph x.graph) c.cover.view_is c.states-states.ensures.kept in
    let old = c.loop-state.invariant in
    let count : c.states-states.result ≡ n = c.states-states.ensures.count ∙ ap (λ (x : CoverData). length x.graph) c.cover.view_is in
    let end : c.loop-state.state ≡ n = omega (arith, count, c.loop-state-test.false, c.loop-state.auto.state-end) in
    counts_more cover.graph (matrix_data c.args.counts.now) (matrix_data c.loop-state.more.items) q graph counts (old.size ∙ end) old.square
    (λ from to from_in to_in. old.each from to (omega (arith, from_in, end)) to_in)
