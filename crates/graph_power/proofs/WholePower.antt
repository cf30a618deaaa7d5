-- The rows of all words are the power of the cover, and counts of words are those of its edges.
use Rattle.std.proofs.Common.{◌≡◌, ℕ, zero, suc, ◌+◌, ◌*◌, ◌^◌, ◌<◌, ◌≤◌, List, [], ◌∷◌, length, get_or, map, replicate, inl, inr, refl, ap, sym, ◌∙◌, subst, arith}
use Rattle.std.specs.Prelude.{All, Contains, filter, nat_eq}
use Rattle.std.specs.List.{sum, range_with_len}
use Rattle.std.proofs.lemmas.Bool.{cases_lt}
use Rattle.std.proofs.lemmas.List.{get_or_past, length-replicate, get_or_default}
use Rattle.std.proofs.lemmas.List.FromFn.{length-map-range_with_len, get_or-map-range_with_len, fill_by_all}
use Rattle.std.proofs.lemmas.List.Sums.{sum_by-le}
use Rattle.symbol_base.specs.Block.{number_of}
use Rattle.symbol_base.specs.Walk.{IsWalk}
use Rattle.label_graphs.specs.Graph.{EdgeData, HasEdge, IsGraph}
use Rattle.label_graphs.specs.Cover.{CoverData, KeepsSymbols}
use Rattle.label_graphs.specs.Power.{IsPower, edge_count, HasPowerEdges}
use Rattle.label_graphs.specs.Matrix.{CountsEdges, CountsWords}
use Rattle.label_graphs.specs.Vector.{product_sum, target_sum}
use Rattle.label_graphs.proofs.Sums.{counts_add_up, sum-cons}
use Rattle.graph_power.specs.inside.Words.{AreCounts, AreWordCounts, power_rows, word_count, words_from}
use Rattle.graph_power.proofs.Totals.{word_count_le, power_le}
use Rattle.graph_power.proofs.Listed.{listed, lists, walk_inside, words_counted, words_to_counted}
use Rattle.graph_power.proofs.Ordered.{words_ascend}

pub rows_counted : (cover : CoverData) (q : ℕ) → length (power_rows cover q) ≡ length cover.graph
rows_counted cover q = length-map-range_with_len (words_from cover q 0) 0 (length cover.graph)

pub row_at : (cover : CoverData) (q state : ℕ) (d : List EdgeData) → state < length cover.graph → get_or (power_rows cover q) state d ≡ words_from cover q 0 state
row_at cover q state d inside = get_or-map-range_with_len (words_from cover q 0) 0 (length cover.graph) state state d inside (omega arith)

no_edge_past : (rows : List (List EdgeData)) (from block to : ℕ) → length rows ≤ from → HasEdge rows from block to → ⊥
no_edge_past rows from block to outside found =
    let none : Contains [] (record { block = block; to = to }) = subst (λ (es : List EdgeData). Contains es (record { block = block; to = to })) (get_or_past rows from [] outside) found in
    absurd (omega (arith, none.1))

no_walk_past : (rows : List (List EdgeData)) (word : List ℕ) (from to : ℕ) → length rows ≤ from → 1 ≤ length word → IsWalk (HasEdge rows) from word to → ⊥
no_walk_past rows [] from to outside some walk = absurd (omega (arith, some))
no_walk_past rows (symbol ∷ word) from to outside some walk = no_edge_past rows from symbol walk.0 outside walk.1

-- the rows of all words are the power
pub is_power : (cover : CoverData) (q : ℕ) → 1 ≤ q → KeepsSymbols cover → IsGraph cover.graph → IsPower cover q (power_rows cover q)
is_power cover q one known graph =
    let rows = power_rows cover q in
    let n = length cover.graph in
    let size = rows_counted cover q in
    record {
      graph = record {
        count = (let few = graph.count in omega (arith, few, size));
        order = λ k d inside.
            rw (row_at cover q k d (omega (arith, inside, size))) (words_ascend cover q 0 k known graph);
        targets = λ k d inside j e inside_j.
            let k_in : k < n = omega (arith, inside, size) in
            let there : j < length (words_from cover q 0 k) = subst (λ (es : List EdgeData). j < length es) (row_at cover q k d k_in) inside_j in
            let f : EdgeData = get_or (words_from cover q 0 k) j e in
            let read = listed cover q 0 k f (j, there, get_or_default (words_from cover q 0 k) j f e there) in
            let low = walk_inside cover.graph read.word k f.to graph k_in read.walk in
            let same : (get_or (get_or rows k d) j e).to ≡ f.to = ap (λ (es : List EdgeData). (get_or es j e).to) (row_at cover q k d k_in) in
            omega (arith, low, same, size);
      };
      states = size;
      edges = λ from block to. (
        (λ edge. elim (cases_lt from n) [
          | inl inside ↦ (
              let there : Contains (words_from cover q 0 from) (record { block = block; to = to }) =
              subst (λ (es : List EdgeData). Contains es (record { block = block; to = to })) (row_at cover q from [] inside) edge in
              let read = listed cover q 0 from (record { block = block; to = to }) there in
              let number = read.number in
              (read.word, read.walk, read.size, omega (arith, number)))
          | inr outside ↦ absurd (no_edge_past rows from block to (omega (arith, outside, size)) edge)
        ]),
        (λ edge. elim (cases_lt from n) [
          | inl inside ↦ (
              let there = lists cover edge.0 0 from to edge.1 in
              let value : 0 * cover.alphabet ^ length edge.0 + number_of cover.alphabet edge.0 ≡ block = omega (arith, edge.3) in
              subst (λ (es : List EdgeData). Contains es (record { block = block; to = to })) (sym (row_at cover q from [] inside))
              (subst (λ k. Contains (words_from cover k 0 from) (record { block = block; to = to })) edge.2
              (subst (λ b. Contains (words_from cover (length edge.0) 0 from) (record { block = b; to = to })) value there)))
          | inr outside ↦ absurd (no_walk_past cover.graph edge.0 from to outside (omega (arith, one, edge.2)) edge.1)
        ]),
      );
    }

-- the counts of all words from state to state are those of the power's edges
pub counts_edges : (cover : CoverData) (q : ℕ) (matrix : List (List ℕ)) → AreCounts cover.graph q matrix → CountsEdges (power_rows cover q) matrix
counts_edges cover q matrix counts =
    let size = rows_counted cover q in
    record {
      size = counts.size ∙ sym size;
      square = λ k d inside. counts.square k d inside ∙ sym size;
      entries = λ from to from_in to_in.
          counts.each from to (omega (arith, from_in, size)) (omega (arith, to_in, size))
          ∙ sym (words_to_counted cover q to 0 from)
          ∙ ap (λ (es : List EdgeData). length (filter (λ e. nat_eq e.to to) es)) (sym (row_at cover q from [] (omega (arith, from_in, size))));
    }

pub counts_words : (cover : CoverData) (q : ℕ) (matrix : List (List ℕ)) → 1 ≤ q → KeepsSymbols cover → IsGraph cover.graph → AreCounts cover.graph q matrix → CountsWords cover q matrix
counts_words cover q matrix one known graph counts = (power_rows cover q, is_power cover q one known graph, counts_edges cover q matrix counts)

sum_by_ones : (row : List ℕ) → product_sum row (replicate (length row) 1) ≡ sum row
sum_by_ones [] = refl
sum_by_ones (x ∷ row) = let rest = sum_by_ones row in let more = sum-cons x row in omega (arith, rest, more)

ones_at : (n i : ℕ) → get_or (replicate {A = ℕ} n 1) i 0 ≤ 1
ones_at zero i = omega arith
ones_at (suc n) zero = omega arith
ones_at (suc n) (suc i) = ones_at n i

ones_le : (n : ℕ) (row : List EdgeData) → sum (map (λ e. get_or (replicate {A = ℕ} n 1) e.to 0) row) ≤ length row
ones_le n [] = omega arith
ones_le n (e ∷ row) =
    let rest = ones_le n row in
    let here = ones_at n e.to in
    let more = sum-cons (get_or (replicate {A = ℕ} n 1) e.to 0) (map (λ (e : EdgeData). get_or (replicate {A = ℕ} n 1) e.to 0) row) in
    omega (arith, rest, here, more)

-- no row adds up to more than there are words over the alphabet
pub rows_small : (cover : CoverData) (q : ℕ) (matrix : List (List ℕ)) → q ≤ 20 → KeepsSymbols cover → IsGraph cover.graph → AreCounts cover.graph q matrix
    → All (λ row. sum row ≤ 2 ^ 40) matrix
rows_small cover q matrix twenty known graph counts k d inside =
    let n = length cover.graph in
    let size = rows_counted cover q in
    let k_in : k < n = (let same = counts.size in omega (arith, inside, same)) in
    let row = get_or matrix k d in
    let wide : length row ≡ n = counts.square k d inside in
    let ones : List ℕ = replicate n 1 in
    let same : sum row ≡ target_sum (power_rows cover q) ones k =
    sym (sum_by_ones row) ∙ ap (λ m. product_sum row (replicate m 1)) wide
    ∙ ap (λ (xs : List ℕ). product_sum xs ones) (get_or_default matrix k d [] inside)
    ∙ counts_add_up (power_rows cover q) matrix ones k (counts_edges cover q matrix counts) (length-replicate n 1 ∙ sym size) (omega (arith, k_in, size)) in
    let low : target_sum (power_rows cover q) ones k ≤ length (get_or (power_rows cover q) k []) = ones_le n (get_or (power_rows cover q) k []) in
    let many : length (get_or (power_rows cover q) k []) ≡ word_count cover.graph q k = ap (λ (es : List EdgeData). length es) (row_at cover q k [] k_in) ∙ words_counted cover q 0 k in
    let few = word_count_le cover q k known graph in
    let power = power_le cover.alphabet q 20 (known.alphabet.1) twenty in
    omega (arith, same, low, many, few, power)

lengths_counted : (cover : CoverData) (q : ℕ) (states : List ℕ) → map (λ (row : List EdgeData). length row) (map (words_from cover q 0) states) ≡ map (word_count cover.graph q) states
lengths_counted cover q [] = refl
lengths_counted cover q (state ∷ states) =
    let here = words_counted cover q 0 state in
    let rest = lengths_counted cover q states in
    cc

-- the power has as many edges as the counts of its words add up to
pub edges_counted : (cover : CoverData) (q : ℕ) (counts : List ℕ) → AreWordCounts cover.graph q counts → edge_count (power_rows cover q) ≡ sum counts
edges_counted cover q counts each =
    ap (λ (xs : List ℕ). sum xs)
    (lengths_counted cover q (range_with_len 0 (length cover.graph))
    ∙ sym (fill_by_all (word_count cover.graph q) counts (length cover.graph) 0 each.size each.each))

pub has_power_edges : (cover : CoverData) (q : ℕ) (counts : List ℕ) → 1 ≤ q → KeepsSymbols cover → IsGraph cover.graph → AreWordCounts cover.graph q counts
    → HasPowerEdges cover q (sum counts)
has_power_edges cover q counts one known graph each = (power_rows cover q, is_power cover q one known graph, edges_counted cover q counts each)

-- and they add up to a number of 64 bits
pub counts_fit : (cover : CoverData) (q : ℕ) (counts : List ℕ) → q ≤ 20 → KeepsSymbols cover → IsGraph cover.graph → AreWordCounts cover.graph q counts → sum counts < 2 ^ 64
counts_fit cover q counts twenty known graph each =
    let small : All (λ x. x ≤ 4 ^ 20) counts = λ k d inside.
    let k_in : k < length cover.graph = (let same = each.size in omega (arith, inside, same)) in
    let is : get_or counts k d ≡ word_count cover.graph q k = get_or_default counts k d 0 inside ∙ each.each k k_in in
    let few = word_count_le cover q k known graph in
    let power = power_le cover.alphabet q 20 (known.alphabet.1) twenty in
    omega (arith, is, few, power) in
    let low : sum counts ≤ length counts * 4 ^ 20 = sum_by-le (λ (x : ℕ). x) (4 ^ 20) counts small in
    let size = each.size in
    let states = known.states.1 in
    omega (arith, low, size, states)
