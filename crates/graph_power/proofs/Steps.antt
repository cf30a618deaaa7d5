-- The steps of the loops: one more edge, one more row, one more symbol.
use Rattle.std.proofs.Common.{◌≡◌, ℕ, zero, suc, ◌+◌, ◌*◌, ◌-◌, ◌^◌, ◌<◌, ◌≤◌, List, [], ◌∷◌, ◌++◌, length, get_or, take, drop, map, inl, inr, ap, sym, ◌∙◌, subst, arith, add-one}
use Rattle.std.specs.Prelude.{All, Contains}
use Rattle.std.specs.Global.{Vec}
use Rattle.std.specs.List.{flat_map, range_with_len}
use Rattle.std.proofs.Math.Nat.{pow-succ', mul-le-mul_right}
use Rattle.std.proofs.lemmas.Bool.{cases_lt}
use Rattle.std.proofs.lemmas.List.{append-nil, append_assoc, get_or-map, get_or_append_left, get_or_push, length-map, length_push, map-append, map_more, nil_from_length, take-append-le, take_all, get_or_default}
use Rattle.std.proofs.lemmas.List.Concat.{flat_map-append}
use Rattle.std.proofs.lemmas.List.Elements.{All-push}
use Rattle.std.proofs.lemmas.List.FromFn.{map-range_with_len_more}
use Rattle.symbol_base.proofs.BlockLemmas.{power_positive}
use Rattle.label_graphs.specs.declared.graph.Edge.{Edge}
use Rattle.label_graphs.specs.Graph.{EdgeData, IsGraph}
use Rattle.label_graphs.specs.Cover.{CoverData, KeepsSymbols}
use Rattle.label_graphs.specs.Matrix.{entry_at, IsMatrix}
use Rattle.label_graphs.specs.Views.{edge_data, matrix_data, rows_data}
use Rattle.label_graphs.proofs.Renumbered.{target_of}
use Rattle.graph_power.specs.inside.Words.{AreCountedTo, AreCounts, AreWordCounts, IsSquareWithin, target_total, word_count, words_from, words_to}
use Rattle.graph_power.proofs.Totals.{few_edges, power_le, symbol_below, total_push, total_same, word_count_le, words_to_le}
use Rattle.graph_power.proofs.Listed.{words_counted}

abbrev pub edges_of : List (Edge ℕ) → List EdgeData
edges_of row = map (edge_data (λ name. name)) row

-- a row of the cover, seen from outside
pub seen_row : (inside now : CoverData) (row : List (Edge ℕ)) (at state : ℕ) → inside ≡ now → at ≡ state
    → edges_of row ≡ get_or inside.graph at [] → edges_of row ≡ get_or now.graph state []
seen_row inside now row at state is same known =
    known ∙ ap (λ (c : CoverData). get_or c.graph at []) is ∙ ap (λ k. get_or now.graph k []) same

pub row_few : (cover : CoverData) (row : List (Edge ℕ)) (state : ℕ) → KeepsSymbols cover → IsGraph cover.graph
    → edges_of row ≡ get_or cover.graph state [] → length row ≤ 4
row_few cover row state known graph is =
    let few = few_edges cover state known graph in
    let size : length row ≡ length (get_or cover.graph state []) = sym (length-map row (edge_data (λ name. name))) ∙ ap (λ (es : List EdgeData). length es) is in
    let four = known.alphabet.1 in
    omega (arith, few, size, four)

pub written_back : (n : ℕ) (new old : List ℕ) → length new ≡ n → take n (new ++ drop (length new) old) ≡ new
written_back n new old is = take-append-le n new (drop (length new) old) (omega arith) ∙ take_all n new (omega arith)

-- one more edge
pub total_more : (f : ℕ → ℕ) (edges : List (Edge ℕ)) (i : ℕ) (e : Edge ℕ) → i < length edges → e ≡ get_or edges i e
    → target_total f (edges_of (take (i + 1) edges)) ≡ target_total f (edges_of (take i edges)) + f e.to
total_more f edges i e inside is =
    let E : Edge ℕ → EdgeData = edge_data (λ name. name) in
    ap (target_total f) (map_more E edges i e inside ∙ ap (λ (x : Edge ℕ). edges_of (take i edges) ++ E x ∷ []) (sym is))
    ∙ total_push f (edges_of (take i edges)) (E e)

-- a row of a vector of vectors
pub vec_row : (counts : List (Vec ℕ)) (k : ℕ) (v : Vec ℕ) → k < length counts → v ≡ get_or counts k v → get_or (matrix_data counts) k [] ≡ v.items
vec_row counts k v inside is = get_or-map (λ (row : Vec ℕ). row.items) counts k v [] inside ∙ sym (ap (λ (row : Vec ℕ). row.items) is)

pub entries_push : (F : ℕ → ℕ → ℕ) (wide state : ℕ) (rows more : List (Vec ℕ)) (new : Vec ℕ) → more ≡ rows ++ new ∷ [] → length (matrix_data rows) ≡ state
    → ((from to : ℕ) → from < state → to < wide → entry_at (matrix_data rows) from to ≡ F from to)
    → ((to : ℕ) → to < wide → get_or new.items to 0 ≡ F state to)
    → (from to : ℕ) → from < state + 1 → to < wide → entry_at (matrix_data more) from to ≡ F from to
entries_push F wide state rows more new joined size each here from to from_in to_in =
    let items : Vec ℕ → List ℕ = λ row. row.items in
    let pushed : matrix_data more ≡ matrix_data rows ++ new.items ∷ [] = ap (map items) joined ∙ map-append items rows (new ∷ []) in
    ap (λ (m : List (List ℕ)). entry_at m from to) pushed ∙ elim (cases_lt from state) [
      | inl low ↦ ap (λ (r : List ℕ). get_or r to 0) (get_or_append_left (matrix_data rows) (new.items ∷ []) [] from (omega (arith, size, low))) ∙ each from to low to_in
      | inr high ↦ (
          let last : state ≡ from = omega (arith, high, from_in) in
          ap (λ (r : List ℕ). get_or r to 0) (get_or_push (matrix_data rows) new.items [] from (size ∙ last)) ∙ here to to_in ∙ ap (λ k. F k to) last)
    ]

pub square_push : (wide : ℕ) (rows more : List (Vec ℕ)) (new : Vec ℕ) → more ≡ rows ++ new ∷ [] → length new.items ≡ wide
    → All (λ row. length row ≡ wide) (matrix_data rows) → All (λ row. length row ≡ wide) (matrix_data more)
square_push wide rows more new joined here each =
    let items : Vec ℕ → List ℕ = λ row. row.items in
    let pushed : matrix_data more ≡ matrix_data rows ++ new.items ∷ [] = ap (map items) joined ∙ map-append items rows (new ∷ []) in
    subst (λ (m : List (List ℕ)). All (λ (row : List ℕ). length row ≡ wide) m) (sym pushed) (All-push (λ (row : List ℕ). length row ≡ wide) (matrix_data rows) new.items each here)

pub size_push : (rows more : List (Vec ℕ)) (new : Vec ℕ) (state : ℕ) → more ≡ rows ++ new ∷ [] → length (matrix_data rows) ≡ state → length (matrix_data more) ≡ state + 1
size_push rows more new state joined size =
    let items : Vec ℕ → List ℕ = λ row. row.items in
    ap (λ (m : List (List ℕ)). length m) (ap (map items) joined ∙ map-append items rows (new ∷ [])) ∙ length_push (matrix_data rows) new.items ∙ ap (λ n. n + 1) size

-- one more symbol
pub counts_more : (graph : List (List EdgeData)) (counts more : List (List ℕ)) (q : ℕ) → IsGraph graph → AreCounts graph q counts
    → length more ≡ length graph → All (λ row. length row ≡ length graph) more
    → ((from to : ℕ) → from < length graph → to < length graph → entry_at more from to ≡ target_total (λ s. entry_at counts s to) (get_or graph from []))
    → AreCounts graph (suc q) more
counts_more graph counts more q known old size square each = record {
  size = size;
  square = square;
  each = λ from to from_in to_in.
      each from to from_in to_in
      ∙ total_same (λ s. entry_at counts s to) (words_to graph q to) (get_or graph from [])
      (λ e found. old.each e.to to (target_of graph from e.block e.to known from_in found) to_in);
}

pub word_counts_more : (graph : List (List EdgeData)) (counts more : List ℕ) (q : ℕ) → IsGraph graph → AreWordCounts graph q counts
    → length more ≡ length graph
    → ((from : ℕ) → from < length graph → get_or more from 0 ≡ target_total (λ s. get_or counts s 0) (get_or graph from []))
    → AreWordCounts graph (suc q) more
word_counts_more graph counts more q known old size each = record {
  size = size;
  each = λ from from_in.
      each from from_in
      ∙ total_same (λ s. get_or counts s 0) (word_count graph q) (get_or graph from [])
      (λ e found. old.each e.to (target_of graph from e.block e.to known from_in found));
}

pub square_within : (cover : CoverData) (q : ℕ) (counts : List (List ℕ)) → q ≤ 19 → KeepsSymbols cover → IsGraph cover.graph → AreCounts cover.graph q counts
    → IsSquareWithin (2 ^ 38) counts
square_within cover q counts few known graph each = record {
  square = λ k d inside. each.square k d inside ∙ sym each.size;
  small = λ k d inside j e inside_j.
      let size = each.size in
      let k_in : k < length cover.graph = omega (arith, inside, size) in
      let wide = each.square k d inside in
      let j_in : j < length cover.graph = omega (arith, inside_j, wide) in
      let is : get_or (get_or counts k d) j e ≡ words_to cover.graph q j k =
      get_or_default (get_or counts k d) j e 0 inside_j ∙ ap (λ (row : List ℕ). get_or row j 0) (get_or_default counts k d [] inside) ∙ each.each k j k_in j_in in
      let low = words_to_le cover q j k known graph in
      let power = power_le cover.alphabet q 19 (known.alphabet.1) few in
      omega (arith, is, low, power);
}

pub counts_within : (cover : CoverData) (q : ℕ) (counts : List ℕ) → q ≤ 19 → KeepsSymbols cover → IsGraph cover.graph → AreWordCounts cover.graph q counts
    → All (λ count. count ≤ 2 ^ 38) counts
counts_within cover q counts few known graph each k d inside =
    let size = each.size in
    let is : get_or counts k d ≡ word_count cover.graph q k = get_or_default counts k d 0 inside ∙ each.each k (omega (arith, inside, size)) in
    let low = word_count_le cover q k known graph in
    let power = power_le cover.alphabet q 19 (known.alphabet.1) few in
    omega (arith, is, low, power)

pub is_matrix : (graph : List (List EdgeData)) (q : ℕ) (counts : List (List ℕ)) → IsGraph graph → AreCounts graph q counts → IsMatrix counts
is_matrix graph q counts known each = record {
  size = (let few = known.count in let same = each.size in omega (arith, few, same));
  square = λ k d inside. each.square k d inside ∙ sym each.size;
}

-- one more length of words
pub counted_to_more : (graph : List (List EdgeData)) (q : ℕ) (counts more : List (Vec ℕ)) (new : Vec ℕ) → more ≡ counts ++ new ∷ []
    → AreCountedTo graph q (matrix_data counts) → AreWordCounts graph (suc q) new.items → AreCountedTo graph (q + 1) (matrix_data more)
counted_to_more graph q counts more new joined known here =
    let items : Vec ℕ → List ℕ = λ row. row.items in
    let pushed : matrix_data more ≡ matrix_data counts ++ new.items ∷ [] = ap (map items) joined ∙ map-append items counts (new ∷ []) in
    let size = known.size in
    record {
      size = ap (λ (m : List (List ℕ)). length m) pushed ∙ length_push (matrix_data counts) new.items ∙ (let next = add-one q in omega (arith, size, next));
      each = λ i few. subst (λ (m : List (List ℕ)). AreWordCounts graph i (get_or m i [])) (sym pushed)
          (elim (cases_lt i (suc q)) [
            | inl low ↦ subst (λ (row : List ℕ). AreWordCounts graph i row) (sym (get_or_append_left (matrix_data counts) (new.items ∷ []) [] i (omega (arith, size, low))))
                (known.each i (omega (arith, low)))
            | inr high ↦ (
                let last : suc q ≡ i = omega (arith, high, few) in
                subst (λ (row : List ℕ). AreWordCounts graph i row) (sym (get_or_push (matrix_data counts) new.items [] i (size ∙ last)))
                (subst (λ k. AreWordCounts graph k new.items) last here))
          ]);
    }

-- a block that goes on by a symbol fits as well
pub next_fits : (alphabet block symbol left most : ℕ) → 0 < left → symbol < alphabet → (block + 1) * alphabet ^ left ≤ most
    → (block * alphabet + symbol + 1) * alphabet ^ (left - 1) ≤ most
next_fits alphabet block symbol zero most some small fits = absurd (omega (arith, some))
next_fits alphabet block symbol (suc left) most some small fits =
    let here : suc left - 1 ≡ left = omega arith in
    rw here (
    let up : block * alphabet + symbol + 1 ≤ (block + 1) * alphabet = omega (arith, small) in
    let more : (block * alphabet + symbol + 1) * alphabet ^ left ≤ (block + 1) * alphabet * alphabet ^ left = mul-le-mul_right (alphabet ^ left) up in
    let power : (block + 1) * alphabet ^ suc left ≡ (block + 1) * alphabet * alphabet ^ left = rw pow-succ' (grind arith) in
    omega (arith, more, power, fits))

pub block_fits : (alphabet block symbol left most : ℕ) → 0 < left → symbol < alphabet → (block + 1) * alphabet ^ left ≤ most → block * alphabet + symbol < most
block_fits alphabet block symbol left most some small fits =
    let more = next_fits alphabet block symbol left most some small fits in
    let one = power_positive alphabet (left - 1) (omega (arith, small)) in
    let up : (block * alphabet + symbol + 1) * 1 ≤ (block * alphabet + symbol + 1) * alphabet ^ (left - 1) = grind arith in
    omega (arith, more, up)

abbrev pub onward : CoverData → ℕ → ℕ → EdgeData → List EdgeData
onward cover left block e = words_from cover (left - 1) (block * cover.alphabet + e.block) e.to

pub words_go_on : (cover : CoverData) (left block at : ℕ) → 0 < left → flat_map (onward cover left block) (get_or cover.graph at []) ≡ words_from cover left block at
words_go_on cover zero block at some = absurd (omega (arith, some))
words_go_on cover (suc left) block at some =
    let here : suc left - 1 ≡ left = omega arith in
    ap (λ k. flat_map (λ e. words_from cover k (block * cover.alphabet + e.block) e.to) (get_or cover.graph at [])) here

parts_push : (F : EdgeData → List EdgeData) (row : List EdgeData) (e : EdgeData) → flat_map F (row ++ e ∷ []) ≡ flat_map F row ++ F e
parts_push F row e = flat_map-append F row (e ∷ []) ∙ ap (λ (xs : List EdgeData). flat_map F row ++ xs) (append-nil (F e))

-- the words after one more edge
pub words_more : (cover : CoverData) (left block : ℕ) (edges : List (Edge ℕ)) (i : ℕ) (e : Edge ℕ) (start listed more : List EdgeData)
    → i < length edges → e ≡ get_or edges i e → listed ≡ start ++ flat_map (onward cover left block) (edges_of (take i edges))
    → more ≡ listed ++ words_from cover (left - 1) (block * cover.alphabet + e.block.value) e.to
    → more ≡ start ++ flat_map (onward cover left block) (edges_of (take (i + 1) edges))
words_more cover left block edges i e start listed more inside is known joined =
    let E : Edge ℕ → EdgeData = edge_data (λ name. name) in
    let F = onward cover left block in
    let grown : edges_of (take (i + 1) edges) ≡ edges_of (take i edges) ++ E e ∷ [] = map_more E edges i e inside ∙ ap (λ (x : Edge ℕ). edges_of (take i edges) ++ E x ∷ []) (sym is) in
    joined ∙ ap (λ (xs : List EdgeData). xs ++ F (E e)) known ∙ append_assoc start (flat_map F (edges_of (take i edges))) (F (E e))
    ∙ ap (λ (xs : List EdgeData). start ++ xs) (sym (ap (flat_map F) grown ∙ parts_push F (edges_of (take i edges)) (E e)))

-- and where the edge leads to no words
pub words_same : (cover : CoverData) (left block : ℕ) (edges : List (Edge ℕ)) (i : ℕ) (e : Edge ℕ) (start listed : List EdgeData)
    → i < length edges → e ≡ get_or edges i e → listed ≡ start ++ flat_map (onward cover left block) (edges_of (take i edges))
    → word_count cover.graph (left - 1) e.to ≡ 0
    → listed ≡ start ++ flat_map (onward cover left block) (edges_of (take (i + 1) edges))
words_same cover left block edges i e start listed inside is known none =
    let rest = words_from cover (left - 1) (block * cover.alphabet + e.block.value) e.to in
    let empty : rest ≡ [] = nil_from_length rest (words_counted cover (left - 1) (block * cover.alphabet + e.block.value) e.to ∙ none) in
    words_more cover left block edges i e start listed listed inside is known (sym (ap (λ (xs : List EdgeData). listed ++ xs) empty ∙ append-nil listed))

-- one more row of the power
pub rows_push : (cover : CoverData) (q state : ℕ) (rows more : List (Vec (Edge ℕ))) (new : Vec (Edge ℕ)) → more ≡ rows ++ new ∷ []
    → rows_data (λ name. name) rows ≡ map (λ s. words_from cover q 0 s) (range_with_len 0 state) → edges_of new.items ≡ words_from cover q 0 state
    → rows_data (λ name. name) more ≡ map (λ s. words_from cover q 0 s) (range_with_len 0 (state + 1))
rows_push cover q state rows more new joined known here =
    let items : Vec (Edge ℕ) → List EdgeData = λ row. edges_of row.items in
    ap (map items) joined ∙ map-append items rows (new ∷ [])
    ∙ ap (λ (m : List (List EdgeData)). m ++ edges_of new.items ∷ []) known
    ∙ ap (λ (r : List EdgeData). map (λ s. words_from cover q 0 s) (range_with_len 0 state) ++ r ∷ []) here
    ∙ sym (map-range_with_len_more (λ s. words_from cover q 0 s) 0 state state (omega arith))

-- what is known of an edge of the cover
pub record IsEdgeOf (cover : CoverData) (e : Edge ℕ) : Type 0 where
  pub inside : e.to < length cover.graph
  pub symbol : e.block.value < cover.alphabet

pub edge_of : (cover : CoverData) (state : ℕ) (row : List (Edge ℕ)) (i : ℕ) (e : Edge ℕ) → KeepsSymbols cover → IsGraph cover.graph
    → edges_of row ≡ get_or cover.graph state [] → state < length cover.graph → i < length row → e ≡ get_or row i e → IsEdgeOf cover e
edge_of cover state row i e known graph is state_in inside here =
    let E : Edge ℕ → EdgeData = edge_data (λ name. name) in
    let there : Contains (edges_of row) (E e) =
    (i, (let size = length-map row E in omega (arith, inside, size)), get_or-map E row i e (E e) inside ∙ ap E (sym here)) in
    let found : Contains (get_or cover.graph state []) (E e) = subst (λ (es : List EdgeData). Contains es (E e)) is there in
    record {
      inside = target_of cover.graph state e.block.value e.to graph state_in found;
      symbol = symbol_below cover state (E e) known found;
    }
