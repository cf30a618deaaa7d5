-- Rows under new numbers: their edges, their order, and the graph that they make.
use Rattle.std.proofs.Common.{◌≡◌, ℕ, zero, suc, ◌+◌, ◌<◌, List, [], ◌∷◌, ◌++◌, length, get_or, map, Bool, true, false, cond, inl, inr, refl, ap, sym, ◌∙◌, subst, arith}
use Rattle.std.specs.Global.{Vec}
use Rattle.std.specs.Prelude.{filter, All, Contains, slice_index}
use Rattle.std.proofs.lemmas.Bool.{cases_lt}
use Rattle.std.proofs.lemmas.List.{get_or-map, get_or_past, length-map, map-append}
use Rattle.std.proofs.lemmas.List.Elements.{Contains-get_or}
use Rattle.symbol_base.specs.Ascending.{IsAscending}
use Rattle.symbol_base.proofs.AscendingNumbers.{filter_keeps, filter_kept}
use Rattle.label_graphs.specs.declared.graph.Edge.{Edge}
use Rattle.label_graphs.specs.Graph.{EdgeData, IsEdgeBefore, HasEdge, IsGraph}
use Rattle.label_graphs.specs.Views.{edge_data, rows_data}
use Rattle.label_graphs.specs.Kept.{marked_states, IsKept}
use Rattle.label_graphs.specs.inside.Numbers.{passing, rank, is_marked, renumbered, kept_rows}
use Rattle.label_graphs.proofs.EdgeOrder.{first_before, rest_ascends, ascending_by}
use Rattle.label_graphs.proofs.Ranks.{passing_more, passing_same, rank_most, rank_below, state_at, stands}

-- the edge under new numbers
abbrev pub new_edge : (ℕ → Bool) → EdgeData → EdgeData
new_edge test e = record { block = e.block; to = rank test e.to }

pub no_edge : EdgeData
no_edge = record { block = 0; to = 0 }

-- each edge under new numbers comes from one to a state that passes
pub renumbered_from : (test : ℕ → Bool) (row : List EdgeData) (f : EdgeData) → Contains (renumbered test row) f
    → (e : EdgeData) × Contains row e × (test e.to ≡ true) × (new_edge test e ≡ f)
renumbered_from test row f found =
    let T : EdgeData → Bool = λ e. test e.to in
    let passed = filter T row in
    let size : length (renumbered test row) ≡ length passed = length-map passed (new_edge test) in
    let inside : found.0 < length passed = omega (arith, found.1, size) in
    let e : EdgeData = get_or passed found.0 no_edge in
    let kept = filter_keeps T row e (Contains-get_or passed found.0 no_edge inside) in
    (e, kept.0, kept.1, sym (get_or-map (new_edge test) passed found.0 no_edge f inside) ∙ found.2)

-- and each such edge has one
pub renumbered_has : (test : ℕ → Bool) (row : List EdgeData) (e : EdgeData) → Contains row e → test e.to ≡ true
    → Contains (renumbered test row) (new_edge test e)
renumbered_has test row e there passes =
    let T : EdgeData → Bool = λ e. test e.to in
    let passed = filter T row in
    let found = filter_kept T row e there passes in
    let size : length (renumbered test row) ≡ length passed = length-map passed (new_edge test) in
    (found.0, omega (arith, found.1, size), get_or-map (new_edge test) passed found.0 e (new_edge test e) found.1 ∙ ap (new_edge test) found.2)

new_before : (test : ℕ → Bool) (e f : EdgeData) → test e.to ≡ true → IsEdgeBefore e f → IsEdgeBefore (new_edge test e) (new_edge test f)
new_before test e f passes (inl less) = inl less
new_before test e f passes (inr both) = inr (both.0, rank_below test e.to f.to both.1 passes)

ascends_by : (test : ℕ → Bool) (e : EdgeData) (row : List EdgeData) (b : Bool) → test e.to ≡ b → ((f : EdgeData) → Contains row f → IsEdgeBefore e f)
    → IsAscending IsEdgeBefore (renumbered test row)
    → IsAscending IsEdgeBefore (map (new_edge test) (cond b (e ∷ filter (λ e. test e.to) row) (filter (λ e. test e.to) row)))
ascends_by test e row true passes before order =
    ascending_by (new_edge test e) (renumbered test row)
    (λ g found.
    let old = renumbered_from test row g found in
    subst (λ (x : EdgeData). IsEdgeBefore (new_edge test e) x) old.3 (new_before test e old.0 passes (before old.0 old.1)))
    order
ascends_by test e row false fails before order = order

-- they stand in order
pub renumbered_ascends : (test : ℕ → Bool) (row : List EdgeData) → IsAscending IsEdgeBefore row → IsAscending IsEdgeBefore (renumbered test row)
renumbered_ascends test [] order = tt
renumbered_ascends test (e ∷ row) order =
    ascends_by test e row (test e.to) refl (first_before e row order) (renumbered_ascends test row (rest_ascends e row order))

rows_mapped : {N : Type 0} (number : N → ℕ) (rows : List (Vec (Edge N))) (new : Vec (Edge N))
    → rows_data number (rows ++ new ∷ []) ≡ rows_data number rows ++ map (edge_data number) new.items ∷ []
rows_mapped number rows new = map-append (λ row. map (edge_data number) row.items) rows (new ∷ [])

-- one more row, of a state that passes
pub row_kept : {N : Type 0} (number : N → ℕ) (test : ℕ → Bool) (graph : List (List EdgeData)) (n : ℕ) (row : List EdgeData) (rows more : List (Vec (Edge N)))
    (new : Vec (Edge N)) → test n ≡ true → row ≡ get_or graph n [] → more ≡ rows ++ new ∷ [] → map (edge_data number) new.items ≡ renumbered test row
    → rows_data number rows ≡ kept_rows test graph n → rows_data number more ≡ kept_rows test graph (n + 1)
row_kept {N = N} number test graph n row rows more new passes at joined is known =
    let F : ℕ → List EdgeData = λ state. renumbered test (get_or graph state []) in
    ap (rows_data number) joined ∙ rows_mapped number rows new ∙ ap (λ (xs : List (List EdgeData)). xs ++ map (edge_data number) new.items ∷ []) known
    ∙ ap (λ (x : List EdgeData). kept_rows test graph n ++ x ∷ []) (is ∙ ap (renumbered test) at)
    ∙ sym (ap (map F) (passing_more test n passes) ∙ map-append F (passing test n) (n ∷ []))

-- and one of a state that fails
pub row_left : (test : ℕ → Bool) (graph : List (List EdgeData)) (n : ℕ) (rows : List (List EdgeData)) → test n ≡ false
    → rows ≡ kept_rows test graph n → rows ≡ kept_rows test graph (n + 1)
row_left test graph n rows fails known =
    known ∙ sym (ap (map (λ state. renumbered test (get_or graph state []))) (passing_same test n fails))

kept_row : (test : ℕ → Bool) (graph : List (List EdgeData)) (n i : ℕ) (d : List EdgeData) → i < rank test n
    → get_or (kept_rows test graph n) i d ≡ renumbered test (get_or graph (get_or (passing test n) i 0) [])
kept_row test graph n i d inside = get_or-map (λ state. renumbered test (get_or graph state [])) (passing test n) i 0 d inside

-- a state with an edge is one of the graph
pub source_of : (rows : List (List EdgeData)) (from block to : ℕ) → HasEdge rows from block to → from < length rows
source_of rows from block to edge = elim (cases_lt from (length rows)) [
  | inl inside ↦ inside
  | inr past ↦ (
      let none : length (get_or rows from []) ≡ 0 = ap (λ (es : List EdgeData). length es) (get_or_past rows from [] past) in
      absurd (omega (arith, edge.1, none)))
]

pub target_of : (graph : List (List EdgeData)) (state block to : ℕ) → IsGraph graph → state < length graph → HasEdge graph state block to → to < length graph
target_of graph state block to known inside edge =
    let low = known.targets state [] inside edge.0 (record { block = block; to = to }) edge.1 in
    let same : (get_or (get_or graph state []) edge.0 (record { block = block; to = to })).to ≡ to = ap (λ (e : EdgeData). e.to) edge.2 in
    omega (arith, low, same)

-- the rows of the marked states are the graph that is kept
pub rows_are_kept : (graph kept : List (List EdgeData)) (marks : List Bool) → IsGraph graph → length marks ≡ length graph
    → kept ≡ kept_rows (is_marked marks) graph (length graph) → IsKept graph marks kept
rows_are_kept graph kept marks known marked is =
    let test = is_marked marks in
    let n = length graph in
    let most : length (passing test n) ≡ length (marked_states marks) = ap (rank test) (sym marked) in
    let size : length kept ≡ rank test n = ap (λ (rows : List (List EdgeData)). length rows) is ∙ length-map (passing test n) (λ state. renumbered test (get_or graph state [])) in
    let place : (i : ℕ) → get_or (passing test n) i 0 ≡ slice_index (marked_states marks) i = λ i. ap (λ m. get_or (passing test m) i 0) (sym marked) in
    record {
      size = size ∙ most;
      edges = λ from block to from_in to_in.
          let at : get_or kept from [] ≡ renumbered test (get_or graph (get_or (passing test n) from 0) []) =
          ap (λ (rows : List (List EdgeData)). get_or rows from []) is ∙ kept_row test graph n from [] (omega (arith, from_in, size)) in
          let source = stands test n from (omega (arith, from_in, size)) in
          let target = stands test n to (omega (arith, to_in, size)) in
          let s = get_or (passing test n) from 0 in
          let t = get_or (passing test n) to 0 in
          let s_in : s < n = (let below = source.below in let same = source.is in omega (arith, below, same)) in
          let row = get_or graph s [] in
          let Edges : ℕ → ℕ → Type 0 = λ x y. HasEdge graph x block y in (
            (λ edge.
                let old = renumbered_from test row (record { block = block; to = to }) (subst (λ (es : List EdgeData). Contains es (record { block = block; to = to })) at edge) in
                let same_block : old.0.block ≡ block = ap (λ (e : EdgeData). e.block) old.3 in
                let same_to : rank test old.0.to ≡ to = ap (λ (e : EdgeData). e.to) old.3 in
                let there : HasEdge graph s old.0.block old.0.to = old.1 in
                let below = target_of graph s old.0.block old.0.to known s_in there in
                let stood : t ≡ old.0.to = ap (λ m. get_or (passing test n) m 0) (sym same_to) ∙ state_at test n old.0.to below old.2 in
                subst (λ x. Edges x (slice_index (marked_states marks) to)) (place from)
                (subst (λ y. Edges s y) (sym stood ∙ place to) (subst (λ b. HasEdge graph s b old.0.to) same_block there))),
            (λ edge.
                let there : Edges s t = subst (λ x. Edges x t) (sym (place from)) (subst (λ y. Edges (slice_index (marked_states marks) from) y) (sym (place to)) edge) in
                let passes : test t ≡ true = subst (λ x. test x ≡ true) (sym target.is) target.passes in
                let number : rank test t ≡ to = ap (rank test) target.is ∙ target.number in
                let new : Contains (renumbered test row) (record { block = block; to = rank test t }) = renumbered_has test row (record { block = block; to = t }) there passes in
                subst (λ (es : List EdgeData). Contains es (record { block = block; to = to })) (sym at)
                (subst (λ x. Contains (renumbered test row) (record { block = block; to = x })) number new)),
          );
    }

-- they are the rows of a graph
pub kept_is_graph : (graph kept : List (List EdgeData)) (test : ℕ → Bool) → IsGraph graph → kept ≡ kept_rows test graph (length graph) → IsGraph kept
kept_is_graph graph kept test known is =
    let n = length graph in
    let size : length kept ≡ rank test n = ap (λ (rows : List (List EdgeData)). length rows) is ∙ length-map (passing test n) (λ state. renumbered test (get_or graph state [])) in
    let at : (k : ℕ) (d : List EdgeData) → k < length kept → get_or kept k d ≡ renumbered test (get_or graph (get_or (passing test n) k 0) []) =
    λ k d k_in. ap (λ (rows : List (List EdgeData)). get_or rows k d) is ∙ kept_row test graph n k d (omega (arith, k_in, size)) in
    let source : (k : ℕ) → k < length kept → get_or (passing test n) k 0 < n =
    λ k k_in. let old = stands test n k (omega (arith, k_in, size)) in let below = old.below in let same = old.is in omega (arith, below, same) in
    record {
      count = (let few = known.count in let most = rank_most test n in omega (arith, few, most, size));
      order = λ k d k_in.
          subst (λ (es : List EdgeData). IsAscending IsEdgeBefore es) (sym (at k d k_in))
          (renumbered_ascends test (get_or graph (get_or (passing test n) k 0) []) (known.order (get_or (passing test n) k 0) [] (source k k_in)));
      targets = λ k d k_in j e j_in.
          let s = get_or (passing test n) k 0 in
          let f : EdgeData = get_or (get_or kept k d) j e in
          let there : Contains (renumbered test (get_or graph s [])) f =
          subst (λ (es : List EdgeData). Contains es f) (at k d k_in) (Contains-get_or (get_or kept k d) j e j_in) in
          let old = renumbered_from test (get_or graph s []) f there in
          let same : rank test old.0.to ≡ f.to = ap (λ (x : EdgeData). x.to) old.3 in
          let below = target_of graph s old.0.block old.0.to known (source k k_in) old.1 in
          let less = rank_below test old.0.to n below old.2 in
          omega (arith, less, same, size);
    }

-- the edges of a row lead to states
pub targets_inside : {N : Type 0} (number : N → ℕ) (graph : List (List EdgeData)) (state n : ℕ) (row : List (Edge N)) → map (edge_data number) row ≡ get_or graph state []
    → IsGraph graph → length graph ≡ n → All (λ (e : Edge N). number e.to < n) row
targets_inside {N = N} number graph state n row is known size k d k_in =
    let mapped : k < length (map (edge_data number) row) = (let same = length-map row (edge_data number) in omega (arith, same, k_in)) in
    let inside : k < length (get_or graph state []) = subst (λ (es : List EdgeData). k < length es) is mapped in
    let there : state < length graph = some_row graph state k inside in
    let low = known.targets state [] there k (edge_data number d) inside in
    let same : (get_or (get_or graph state []) k (edge_data number d)).to ≡ number (get_or row k d).to =
    ap (λ (es : List EdgeData). (get_or es k (edge_data number d)).to) (sym is) ∙ ap (λ (e : EdgeData). e.to) (get_or-map (edge_data number) row k d (edge_data number d) k_in) in
    omega (arith, low, same, size)
  where
    some_row : (graph : List (List EdgeData)) (state k : ℕ) → k < length (get_or graph state []) → state < length graph
    some_row [] state k inside = absurd (omega (arith, inside))
    some_row (row ∷ graph) zero k inside = omega arith
    some_row (row ∷ graph) (suc state) k inside = (let low = some_row graph state k inside in omega (arith, low))

-- where the loop over the states ends
pub kept_to_end : (graph rows : List (List EdgeData)) (test : ℕ → Bool) (n : ℕ) → rows ≡ kept_rows test graph n → n ≡ length graph → rows ≡ kept_rows test graph (length graph)
kept_to_end graph rows test n known end = known ∙ ap (kept_rows test graph) end
