use Rattle.std.proofs.Common.{◌<◌, ◌≤◌, ◌^◌, ℕ, List, [], length, get_or, ap, sym, ◌∙◌, subst, arith}
use Rattle.std.specs.Prelude.{All}
use Rattle.std.proofs.lemmas.List.{length-map}
use Rattle.label_graphs.specs.Cover.{CoverData, KeepsSymbols}
use Rattle.label_graphs.specs.Graph.{IsGraph}
use Rattle.label_graphs.specs.Views.{matrix_data}
use Rattle.graph_power.specs.inside.Words.{AreWordCounts}
use Rattle.graph_power.proofs.Steps.{counted_to_more, counts_within, vec_row}
use Rattle.graph_power.proofs.listing.word_counts.Goals as goal

pub counts_of_one_more-requires-clause-size : goal.counts_of_one_more-requires-clause-size
counts_of_one_more-requires-clause-size c =
    let counts = c.loop-shorter.counts.items in
    let i = c.loop-shorter.shorter in
    let known = c.loop-shorter.invariant in
    let inside : i < length counts = omega (arith, length-map counts (λ row. row.items), known.size) in
    let row = vec_row counts i c.index.result.now inside c.index.ensures in
    ap (λ (l : List ℕ). length l) (c.deref.ensures.value ∙ sym row) ∙ (known.each i (omega arith)).size

pub counts_of_one_more-requires-clause-small : goal.counts_of_one_more-requires-clause-small
counts_of_one_more-requires-clause-small c =
    let cover = c.args.cover.now in
    let counts = c.loop-shorter.counts.items in
    let i = c.loop-shorter.shorter in
    let known = c.loop-shorter.invariant in
    let symbols : KeepsSymbols cover = subst (λ (x : CoverData). KeepsSymbols x) c.cover.view_is c.cover.invariant in
    let graph : IsGraph cover.graph = subst (λ (x : CoverData). IsGraph x.graph) c.cover.view_is c.states.ensures.kept in
    let inside : i < length counts = omega (arith, length-map counts (λ row. row.items), known.size) in
    let row = vec_row counts i c.index.result.now inside c.index.ensures in
    subst (λ (l : List ℕ). All (λ count. count ≤ 2 ^ 38) l) (row ∙ sym c.deref.ensures.value)
    (counts_within cover i (get_or (matrix_data counts) i []) (omega (arith, c.loop-shorter-test.true, c.requires)) symbols graph (known.each i (omega arith)))

pub loop-shorter-preserved : goal.loop-shorter-preserved
loop-shorter-preserved c =
    let graph = c.args.cover.now.graph in
    let counts = c.loop-shorter.counts.items in
    let i = c.loop-shorter.shorter in
    let known = c.loop-shorter.invariant in
    let inside : i < length counts = omega (arith, length-map counts (λ row. row.items), known.size) in
    let row = vec_row counts i c.index.result.now inside c.index.ensures in
    let old : AreWordCounts graph i c.deref.result.now = subst (λ (l : List ℕ). AreWordCounts graph i l) (row ∙ sym c.deref.ensures.value) (known.each i (omega arith)) in
    counted_to_more graph i counts c.push-in-loop-shorter.new.self.items c.in_ok-more.more c.in_ok-push-2.ensures.items known (c.in_ok-more.ensures i old)

pub returns-clause-symbols : goal.returns-clause-symbols
returns-clause-symbols c = subst (λ (x : CoverData). KeepsSymbols x) c.cover.view_is c.cover.invariant

pub returns-clause-graph : goal.returns-clause-graph
returns-clause-graph c = subst (λ (x : CoverData). IsGraph x.graph) c.cover.view_is c.states.ensures.kept
