use Rattle.std.proofs.Common.{◌≡◌, ◌<◌, ◌+◌, ℕ, List, [], length, get_or, ap, sym, ◌∙◌, subst, arith}
use Rattle.std.proofs.lemmas.List.{length-map}
use Rattle.label_graphs.specs.Matrix.{entry_at}
use Rattle.label_graphs.specs.Views.{matrix_data}
use Rattle.graph_power.proofs.Steps.{total_more, vec_row, written_back}
use Rattle.graph_power.proofs.counting.added_rows.Goals as goal

pub add-requires-clause-size : goal.add-requires-clause-size
add-requires-clause-size c =
    let counts = c.args.counts.now in
    let to = c.edge-item.result.to in
    let n = length-map counts (λ row. row.items) in
    let inside : to < length counts =
    subst (λ e. e.to < length counts) (sym c.edge-item.is) (c.requires.inside c.loop-edge.edge-index c.edge-item.result c.loop-edge-test.true) in
    let row = vec_row counts to c.index-counts-index.result inside (subst (λ k. c.index-counts-index.result ≡ get_or counts k c.index-counts-index.result) c.index.ensures.value c.index-counts-index.is) in
    let wide = c.requires.square.square to [] (omega (arith, inside, n)) in
    ap (λ (l : List ℕ). length l) c.deref_mut.ensures.value ∙ c.loop-edge.invariant.size ∙ sym wide ∙ ap (λ (l : List ℕ). length l) (row ∙ sym c.deref.ensures.value)

pub add-requires-clause-fits : goal.add-requires-clause-fits
add-requires-clause-fits c = λ k below.
    let counts = c.args.counts.now in
    let to = c.edge-item.result.to in
    let n = length-map counts (λ row. row.items) in
    let inside : to < length counts =
    subst (λ e. e.to < length counts) (sym c.edge-item.is) (c.requires.inside c.loop-edge.edge-index c.edge-item.result c.loop-edge-test.true) in
    let row = vec_row counts to c.index-counts-index.result inside (subst (λ k. c.index-counts-index.result ≡ get_or counts k c.index-counts-index.result) c.index.ensures.value c.index-counts-index.is) in
    let wide = c.requires.square.square to [] (omega (arith, inside, n)) in
    let k_in : k < length (matrix_data counts) = omega (arith, below, ap (λ (l : List ℕ). length l) c.deref_mut.ensures.value, c.loop-edge.invariant.size) in
    let low = c.loop-edge.invariant.small k k_in in
    let added = c.requires.square.small to [] (omega (arith, inside, n)) k 0 (omega (arith, wide, k_in)) in
    omega (
      arith,
      low,
      added,
      c.loop-edge-test.true,
      c.requires.few,
      ap (λ (l : List ℕ). get_or l k 0) c.deref_mut.ensures.value,
      ap (λ (l : List ℕ). get_or l k 0) (row ∙ sym c.deref.ensures.value),
    )

pub loop-edge-preserved : goal.loop-edge-preserved
loop-edge-preserved c =
    let counts = c.args.counts.now in
    let M = matrix_data counts in
    let i = c.loop-edge.edge-index in
    let e = c.edge-item.result in
    let to = e.to in
    let n = length-map counts (λ row. row.items) in
    let inside : to < length counts =
    subst (λ e. e.to < length counts) (sym c.edge-item.is) (c.requires.inside i e c.loop-edge-test.true) in
    let row = vec_row counts to c.index-counts-index.result inside (subst (λ k. c.index-counts-index.result ≡ get_or counts k c.index-counts-index.result) c.index.ensures.value c.index-counts-index.is) in
    let wide = c.requires.square.square to [] (omega (arith, inside, n)) in
    let sums_are = c.deref_mut.ensures.value in
    let row_is : c.deref.result.now ≡ get_or M to [] = c.deref.ensures.value ∙ sym row in
    let old = c.loop-edge.invariant in
    let size : length c.add.new.sums ≡ length M = c.add.ensures.size ∙ ap (λ (l : List ℕ). length l) sums_are ∙ old.size in
    let back = written_back c.loop-edge.sums.len c.add.new.sums c.loop-edge.sums.items (size ∙ sym old.size ∙ sym c.loop-edge.sums.ok.0) in
    let step : (k : ℕ) → k < length M → get_or c.add.new.sums k 0 ≡ get_or c.loop-edge.sums.items k 0 + entry_at M to k = λ k k_in.
    c.add.ensures.each k (omega (arith, k_in, old.size, ap (λ (l : List ℕ). length l) sums_are))
    ∙ ap (λ (l : List ℕ). get_or l k 0 + get_or c.deref.result.now k 0) sums_are
    ∙ ap (λ (l : List ℕ). get_or c.loop-edge.sums.items k 0 + get_or l k 0) row_is in
    record {
      size = ap (λ (l : List ℕ). length l) back ∙ size;
      each = λ k k_in.
          ap (λ (l : List ℕ). get_or l k 0) back ∙ step k k_in ∙ ap (λ x. x + entry_at M to k) (old.each k k_in)
          ∙ sym (total_more (λ s. entry_at M s k) c.args.edges.now i e c.loop-edge-test.true c.edge-item.is);
      small = λ k k_in.
          let low = old.small k k_in in
          let added = c.requires.square.small to [] (omega (arith, inside, n)) k 0 (omega (arith, wide, k_in)) in
          let is = ap (λ (l : List ℕ). get_or l k 0) back ∙ step k k_in in
          omega (arith, low, added, is);
    }
