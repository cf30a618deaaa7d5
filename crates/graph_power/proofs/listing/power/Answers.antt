use Rattle.std.proofs.Common.{◌<◌, ℕ, List, length, ap, sym, ◌∙◌, subst, arith}
use Rattle.std.proofs.lemmas.List.{length-map}
use Rattle.label_graphs.specs.Graph.{EdgeData, IsGraph}
use Rattle.label_graphs.specs.Power.{IsPower, HasPowerEdges, edge_count}
use Rattle.graph_power.specs.inside.Words.{AreWordCounts}
use Rattle.graph_power.proofs.Steps.{vec_row}
use Rattle.graph_power.proofs.WholePower.{counts_fit, edges_counted, has_power_edges, is_power}
use Rattle.graph_power.proofs.listing.power.Goals as goal

pub total-edges-requires : goal.total-edges-requires
total-edges-requires c =
    let graph = c.args.cover.now.graph in
    let q = c.args.q in
    let counts = c.in_ok-counts.counts.items in
    let known = c.in_ok-counts.ensures in
    let inside : q < length counts = omega (arith, length-map counts (λ row. row.items), known.counts.size) in
    let row = vec_row counts q c.index.result.now inside c.index.ensures in
    let each : AreWordCounts graph q c.deref.result.now = subst (λ (l : List ℕ). AreWordCounts graph q l) (row ∙ sym c.deref.ensures.value) (known.counts.each q (omega arith)) in
    counts_fit c.args.cover.now q c.deref.result.now c.requires.twenty known.symbols known.graph each

pub returns-then-edges-gt-MOST_POWER_EDGES-clause-fault : goal.returns-then-edges-gt-MOST_POWER_EDGES-clause-fault
returns-then-edges-gt-MOST_POWER_EDGES-clause-fault c =
    let graph = c.args.cover.now.graph in
    let q = c.args.q in
    let counts = c.in_ok-counts.counts.items in
    let known = c.in_ok-counts.ensures in
    let inside : q < length counts = omega (arith, length-map counts (λ row. row.items), known.counts.size) in
    let row = vec_row counts q c.index.result.now inside c.index.ensures in
    let each : AreWordCounts graph q c.deref.result.now = subst (λ (l : List ℕ). AreWordCounts graph q l) (row ∙ sym c.deref.ensures.value) (known.counts.each q (omega arith)) in (
      c.if-edges-gt-MOST_POWER_EDGES.true,
      subst (λ e. HasPowerEdges c.args.cover.now q e) (sym c.total-edges.ensures)
          (has_power_edges c.args.cover.now q c.deref.result.now c.requires.one known.symbols known.graph each),
    )

pub from_rows-requires : goal.from_rows-requires
from_rows-requires c =
    let known = c.in_ok-counts.ensures in
    subst (λ (rows : List (List EdgeData)). IsGraph rows) (sym c.in_ok-rows.ensures)
    (is_power c.args.cover.now c.args.q c.requires.one known.symbols known.graph).graph

pub returns-clause-edges : goal.returns-clause-edges
returns-clause-edges c =
    let known = c.in_ok-counts.ensures in
    subst (λ (rows : List (List EdgeData)). IsPower c.args.cover.now c.args.q rows) (sym (c.from_rows.ensures ∙ c.in_ok-rows.ensures))
    (is_power c.args.cover.now c.args.q c.requires.one known.symbols known.graph)

pub returns-clause-within : goal.returns-clause-within
returns-clause-within c =
    let cover = c.args.cover.now in
    let q = c.args.q in
    let counts = c.in_ok-counts.counts.items in
    let known = c.in_ok-counts.ensures in
    let inside : q < length counts = omega (arith, length-map counts (λ row. row.items), known.counts.size) in
    let row = vec_row counts q c.index.result.now inside c.index.ensures in
    let each : AreWordCounts cover.graph q c.deref.result.now = subst (λ (l : List ℕ). AreWordCounts cover.graph q l) (row ∙ sym c.deref.ensures.value) (known.counts.each q (omega arith)) in
    let many = edges_counted cover q c.deref.result.now each in
    let is = ap edge_count (c.from_rows.ensures ∙ c.in_ok-rows.ensures) in
    omega (arith, many, is, c.total-edges.ensures, c.if-edges-gt-MOST_POWER_EDGES.false)
