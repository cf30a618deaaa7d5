use Rattle.std.proofs.Common.{◌≡◌, ◌<◌, ◌≤◌, ◌+◌, ◌-◌, ◌*◌, ◌^◌, ℕ, List, ◌++◌, length, get_or, take, refl, ap, sym, ◌∙◌, subst, arith}
use Rattle.std.specs.List.{flat_map}
use Rattle.std.proofs.lemmas.List.{get_or_default, take_all}
use Rattle.label_graphs.specs.Cover.{CoverData, KeepsSymbols}
use Rattle.label_graphs.specs.Graph.{EdgeData, IsGraph}
use Rattle.graph_power.specs.inside.Words.{words_from, word_count}
use Rattle.graph_power.proofs.Steps.{block_fits, edge_of, edges_of, next_fits, onward, seen_row, vec_row, words_go_on, words_more, words_same}
use Rattle.graph_power.proofs.listing.+read_on.Goals.{then-index-gt0+in_ok-read_on, else-index-gt0}
use Rattle.graph_power.proofs.listing.+read_on.Goals as goal

pub index-requires-in-loop-edge : goal.index-requires-in-loop-edge
index-requires-in-loop-edge t c =
    let cover = c.args.cover.now in
    let known : KeepsSymbols cover = subst (λ (x : CoverData). KeepsSymbols x) c.cover.view_is c.cover.invariant in
    let graph : IsGraph cover.graph = subst (λ (x : CoverData). IsGraph x.graph) c.cover.view_is c.row-edge-items.ensures.kept in
    let row = seen_row _ cover c.row-edge-items.result.now c.args.read.to c.args.read.to c.cover.view_is refl c.row-edge-items.ensures.edges in
    let edge = edge_of cover c.args.read.to c.row-edge-items.result.now c.loop-edge.edge-index c.edge-item.result known graph row c.requires.inside c.loop-edge-test.true c.edge-item.is in
    let v = c.index-counts-left.result in
    let level : c.args.left - 1 < length c.args.counts.now = omega (arith, c.requires.levels, c.if-left-eq0.false) in
    let items = vec_row c.args.counts.now (c.args.left - 1) v level c.index-counts-left.is in
    let wide = (c.requires.counted (c.args.left - 1) (omega (arith, c.if-left-eq0.false))).size in
    omega (arith, edge.inside, wide, ap (λ (l : List ℕ). length l) items, v.ok.0, c.index.ensures.value)

pub overflow_mul-more : goal.overflow_mul-more
overflow_mul-more t c =
    let cover = c.args.cover.now in
    let known : KeepsSymbols cover = subst (λ (x : CoverData). KeepsSymbols x) c.cover.view_is c.cover.invariant in
    let graph : IsGraph cover.graph = subst (λ (x : CoverData). IsGraph x.graph) c.cover.view_is c.row-edge-items.ensures.kept in
    let row = seen_row _ cover c.row-edge-items.result.now c.args.read.to c.args.read.to c.cover.view_is refl c.row-edge-items.ensures.edges in
    let edge = edge_of cover c.args.read.to c.row-edge-items.result.now c.loop-edge.edge-index c.edge-item.result known graph row c.requires.inside c.loop-edge-test.true c.edge-item.is in
    let low = block_fits cover.alphabet c.args.read.block.value c.edge-item.result.block.value c.args.left (2 ^ 40) (omega (arith, c.if-left-eq0.false)) edge.symbol c.requires.fits in
    let from_is : c.from.result ≡ cover.alphabet = c.from.ensures ∙ ap (λ (x : CoverData). x.alphabet) c.cover.view_is in
    omega (arith, low, ap (λ a. c.args.read.block.value * a) from_is)

pub overflow_add-more : goal.overflow_add-more
overflow_add-more t c =
    let cover = c.args.cover.now in
    let known : KeepsSymbols cover = subst (λ (x : CoverData). KeepsSymbols x) c.cover.view_is c.cover.invariant in
    let graph : IsGraph cover.graph = subst (λ (x : CoverData). IsGraph x.graph) c.cover.view_is c.row-edge-items.ensures.kept in
    let row = seen_row _ cover c.row-edge-items.result.now c.args.read.to c.args.read.to c.cover.view_is refl c.row-edge-items.ensures.edges in
    let edge = edge_of cover c.args.read.to c.row-edge-items.result.now c.loop-edge.edge-index c.edge-item.result known graph row c.requires.inside c.loop-edge-test.true c.edge-item.is in
    let low = block_fits cover.alphabet c.args.read.block.value c.edge-item.result.block.value c.args.left (2 ^ 40) (omega (arith, c.if-left-eq0.false)) edge.symbol c.requires.fits in
    let from_is : c.from.result ≡ cover.alphabet = c.from.ensures ∙ ap (λ (x : CoverData). x.alphabet) c.cover.view_is in
    omega (arith, low, ap (λ a. c.args.read.block.value * a) from_is)

pub read_on-requires : goal.read_on-requires
read_on-requires t c =
    let cover = c.args.cover.now in
    let known : KeepsSymbols cover = subst (λ (x : CoverData). KeepsSymbols x) c.cover.view_is c.cover.invariant in
    let graph : IsGraph cover.graph = subst (λ (x : CoverData). IsGraph x.graph) c.cover.view_is c.row-edge-items.ensures.kept in
    let row = seen_row _ cover c.row-edge-items.result.now c.args.read.to c.args.read.to c.cover.view_is refl c.row-edge-items.ensures.edges in
    let edge = edge_of cover c.args.read.to c.row-edge-items.result.now c.loop-edge.edge-index c.edge-item.result known graph row c.requires.inside c.loop-edge-test.true c.edge-item.is in
    let symbol = c.edge-item.result.block.value in
    let block = c.args.read.block.value in
    let left = c.args.left in
    let next = next_fits cover.alphabet block symbol left (2 ^ 40) (omega (arith, c.if-left-eq0.false)) edge.symbol c.requires.fits in
    let from_is : c.from.result ≡ cover.alphabet = c.from.ensures ∙ ap (λ (x : CoverData). x.alphabet) c.cover.view_is in (
      omega (arith, c.decreases, c.if-left-eq0.false),
      (
        edge.inside,
        (
          λ i low. c.requires.counted i (omega (arith, low)),
          (
            omega (arith, c.requires.levels),
            subst (λ a. (block * a + symbol + 1) * cover.alphabet ^ (left - 1) ≤ 2 ^ 40) (sym from_is) next,
          ),
        ),
      ),
    )

pub loop-edge-preserved : goal.loop-edge-preserved
loop-edge-preserved t c =
    let cover = c.args.cover.now in
    let known : KeepsSymbols cover = subst (λ (x : CoverData). KeepsSymbols x) c.cover.view_is c.cover.invariant in
    let graph : IsGraph cover.graph = subst (λ (x : CoverData). IsGraph x.graph) c.cover.view_is c.row-edge-items.ensures.kept in
    let items = c.row-edge-items.result.now in
    let row = seen_row _ cover items c.args.read.to c.args.read.to c.cover.view_is refl c.row-edge-items.ensures.edges in
    let i = c.loop-edge.edge-index in
    let e = c.edge-item.result in
    let edge = edge_of cover c.args.read.to items i e known graph row c.requires.inside c.loop-edge-test.true c.edge-item.is in
    let symbol = e.block.value in
    let block = c.args.read.block.value in
    let left = c.args.left in
    let start = edges_of c.args.row.now.items in
    let listed = edges_of c.loop-edge.row.items in
    elim c.if-index-gt0.branch [
      | then-index-gt0+in_ok-read_on w ↦ (
          let from_is : w.from.result ≡ cover.alphabet = w.from.ensures ∙ ap (λ (x : CoverData). x.alphabet) c.cover.view_is in
          words_more cover left block items i e start listed (edges_of c.if-index-gt0.row.items) c.loop-edge-test.true c.edge-item.is c.loop-edge.invariant
          (ap (λ v. edges_of v.items) w.row-is ∙ w.in_ok-read_on.ensures
          ∙ ap (λ a. listed ++ words_from cover (left - 1) (block * a + symbol) e.to) from_is))
      | else-index-gt0 w ↦ (
          let v = c.index-counts-left.result in
          let level : left - 1 < length c.args.counts.now = omega (arith, c.requires.levels, c.if-left-eq0.false) in
          let v_items = vec_row c.args.counts.now (left - 1) v level c.index-counts-left.is in
          let counts = c.requires.counted (left - 1) (omega (arith, c.if-left-eq0.false)) in
          let wide : c.index.result < length v.items = omega (arith, edge.inside, counts.size, ap (λ (l : List ℕ). length l) v_items, c.index.ensures.value) in
          let none : word_count cover.graph (left - 1) e.to ≡ 0 = omega (
            arith,
            w.if-index-gt0.false,
            counts.each e.to edge.inside,
            ap (λ (l : List ℕ). get_or l e.to 0) v_items,
            ap (λ k. get_or v.items k 0) c.index.ensures.value,
            c.index-in-loop-edge.ensures,
            get_or_default v.items c.index.result c.index-in-loop-edge.result.now 0 wide,
          ) in
          ap (λ r. edges_of r.items) w.row-is ∙ words_same cover left block items i e start listed c.loop-edge-test.true c.edge-item.is c.loop-edge.invariant none)
    ]

pub returns : goal.returns
returns t c =
    let cover = c.args.cover.now in
    let items = c.row-edge-items.result.now in
    let row = seen_row _ cover items c.args.read.to c.args.read.to c.cover.view_is refl c.row-edge-items.ensures.edges in
    let block = c.args.read.block.value in
    let left = c.args.left in
    let start = edges_of c.args.row.now.items in
    let all : take c.loop-edge.edge-index items ≡ items = take_all c.loop-edge.edge-index items (omega (arith, c.loop-edge-test.false)) in
    c.loop-edge.invariant
    ∙ ap (λ xs. start ++ flat_map (onward cover left block) (edges_of xs)) all
    ∙ ap (λ (es : List EdgeData). start ++ flat_map (onward cover left block) es) row
    ∙ ap (λ (es : List EdgeData). start ++ es) (words_go_on cover left block c.args.read.to (omega (arith, c.if-left-eq0.false)))
