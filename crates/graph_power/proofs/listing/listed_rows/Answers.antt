use Rattle.std.proofs.Common.{◌<◌, ℕ, List, length, ap, ◌∙◌, subst, arith}
use Rattle.std.proofs.lemmas.List.{length-map}
use Rattle.label_graphs.specs.Cover.{CoverData, KeepsSymbols}
use Rattle.graph_power.specs.inside.Words.{words_from}
use Rattle.graph_power.proofs.Steps.{rows_push, vec_row}
use Rattle.graph_power.proofs.listing.listed_rows.Goals as goal

pub index-many-requires : goal.index-many-requires
index-many-requires c =
    let counts = c.args.counts.now in
    let n = length-map counts (λ row. row.items) in
    let v = c.index-counts-q.result in
    let inside : c.args.q < length counts = omega (arith, n, c.requires.counted.size) in
    let row = vec_row counts c.args.q v inside c.index-counts-q.is in
    let wide = (c.requires.counted.each c.args.q (omega arith)).size in
    let count = c.states-states.ensures.count ∙ ap (λ (x : CoverData). length x.graph) c.cover.view_is in
    omega (arith, wide, ap (λ (l : List ℕ). length l) row, v.ok.0, count, c.loop-state-test.true)

pub listed_row-requires-clause-four : goal.listed_row-requires-clause-four
listed_row-requires-clause-four c =
    let known : KeepsSymbols c.args.cover.now = subst (λ (x : CoverData). KeepsSymbols x) c.cover.view_is c.cover.invariant in known.alphabet.1

pub loop-state-preserved : goal.loop-state-preserved
loop-state-preserved c =
    rows_push c.args.cover.now c.args.q c.loop-state.state c.loop-state.rows.items c.push.new.self.items c.in_ok-row.row c.in_ok-push.ensures.items
    c.loop-state.invariant (c.in_ok-row.ensures ∙ ap (λ s. words_from c.args.cover.now c.args.q 0 s) c.at.ensures.again)
