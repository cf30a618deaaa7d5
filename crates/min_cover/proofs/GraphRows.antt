-- The rows of the graph of the classes, edge by edge and row by row.
use Rattle.std.proofs.Common.{◌≡◌, ℕ, zero, suc, ◌+◌, ◌<◌, List, [], ◌∷◌, ◌++◌, length, map, get_or, take, Option, Some, None, inl, inr, refl, ap, sym, ◌∙◌, subst, arith, length-append}
use Rattle.std.specs.Prelude.{slice_index, All, Contains}
use Rattle.std.specs.Option.{option_map}
use Rattle.std.proofs.lemmas.Bool.{cases_lt}
use Rattle.std.proofs.lemmas.List.{get_or_append_left, take_more, length-take-le}
use Rattle.label_graphs.specs.declared.graph.Edge.{Edge}
use Rattle.label_graphs.specs.Views.{edge_data, rows_data}
use Rattle.std.specs.Global.{Vec}
use Rattle.min_cover.specs.inside.Classes.{rows_of}
use Rattle.min_cover.proofs.Rounds.{row_at}
use Rattle.std.proofs.lemmas.List.Elements.{All-push, All-head, All-tail, Contains-push, Contains-append_left, Contains-push_cases}
use Rattle.std.proofs.Math.ListN.{get_or-eq_default}
use Rattle.symbol_base.specs.Ascending.{IsAscending}
use Rattle.label_graphs.specs.Graph.{EdgeData, IsEdgeBefore}
use Rattle.min_cover.specs.inside.Rows.{AreEdges, AreRows}
use Rattle.min_cover.proofs.SearchSteps.{last_or_before}
use Rattle.min_cover.proofs.FoundSteps.{last_item}

ascending_push : (xs : List EdgeData) (y : EdgeData) → IsAscending IsEdgeBefore xs → All (λ x. IsEdgeBefore x y) xs → IsAscending IsEdgeBefore (xs ++ y ∷ [])
ascending_push [] y order before = tt
ascending_push (x ∷ []) y order before = (All-head (λ (e : EdgeData). IsEdgeBefore e y) x [] before, tt)
ascending_push (x ∷ z ∷ xs) y order before =
    (order.0, ascending_push (z ∷ xs) y order.1 (All-tail (λ (e : EdgeData). IsEdgeBefore e y) x (z ∷ xs) before))

none_end : (xs : List (Option ℕ)) (s : ℕ) → get_or (xs ++ None ∷ []) s None ≡ get_or xs s None
none_end [] zero = refl
none_end [] (suc s) = refl
none_end (x ∷ xs) zero = refl
none_end (x ∷ xs) (suc s) = none_end xs s

wider : (xs : List (Option ℕ)) (next : Option ℕ) (edges : List EdgeData) → All (λ e. e.block < length xs) edges → All (λ e. e.block < length (xs ++ next ∷ [])) edges
wider xs next edges all k d inside = let low = all k d inside in let size = length-append xs (next ∷ []) in omega (arith, low, size)

-- a symbol that leads nowhere adds none
pub edges_past : (class : ℕ → ℕ) (xs : List (Option ℕ)) (edges : List EdgeData) → AreEdges class xs edges → AreEdges class (xs ++ None ∷ []) edges
edges_past class xs edges known = record {
  leads = λ s to. (
    (λ found. ap (option_map class) (none_end xs s) ∙ (known.leads s to).0 found),
    (λ e. (known.leads s to).1 (ap (option_map class) (sym (none_end xs s)) ∙ e)),
  );
  order = known.order;
  symbols = wider xs None edges known.symbols;
}

some_inside : (class : ℕ → ℕ) (xs : List (Option ℕ)) (s to : ℕ) → option_map class (get_or xs s None) ≡ Some to → s < length xs
some_inside class xs s to e = elim (cases_lt s (length xs)) [
  | inl low ↦ low
  | inr high ↦ absurd (let none : option_map class (get_or xs s None) ≡ None = ap (option_map class) (get_or-eq_default xs None {n = s} high) in cc)
]

there : (edges : List EdgeData) (s to block target : ℕ) → s ≡ block → to ≡ target
    → Contains (edges ++ record { block = block; to = target } ∷ []) (record { block = s; to = to })
there edges s to block target same_block same_to =
    let added : EdgeData = record { block = block; to = target } in
    let same : added ≡ record { block = s; to = to } =
    ap (λ x. record { block = x; to = target }) (sym same_block) ∙ ap (λ x. record { block = s; to = x }) (sym same_to) in
    subst (λ (e : EdgeData). Contains (edges ++ added ∷ []) e) same (Contains-push edges added)

-- a symbol that leads to a state adds one
pub edges_more : (class : ℕ → ℕ) (xs : List (Option ℕ)) (t : ℕ) (edges : List EdgeData) → AreEdges class xs edges
    → AreEdges class (xs ++ Some t ∷ []) (edges ++ record { block = length xs; to = class t } ∷ [])
edges_more class xs t edges known =
    let more = xs ++ Some t ∷ [] in
    let added : EdgeData = record { block = length xs; to = class t } in
    let here : get_or more (length xs) None ≡ Some t = last_item xs (Some t) None in
    let size : length more ≡ length xs + 1 = length-append xs (Some t ∷ []) in
    let before : All (λ e. IsEdgeBefore e added) edges = λ k d inside. inl (known.symbols k d inside) in
    let narrow : All (λ e. e.block < length more) edges = wider xs (Some t) edges known.symbols in
    record {
      leads = λ s to. (
        (λ found. elim (Contains-push_cases edges added (record { block = s; to = to }) found) [
          | inl old ↦ (
              let told = (known.leads s to).0 old in
              ap (option_map class) (get_or_append_left xs (Some t ∷ []) None s (some_inside class xs s to told)) ∙ told)
          | inr same ↦ (
              let block : length xs ≡ s = ap (λ (e : EdgeData). e.block) same in
              let target : class t ≡ to = ap (λ (e : EdgeData). e.to) same in
              ap (λ n. option_map class (get_or more n None)) (sym block) ∙ ap (option_map class) here ∙ ap Some target)
        ]),
        (λ e. elim (last_or_before s (length xs) (let inside = some_inside class more s to e in omega (arith, inside, size))) [
          | inl low ↦ Contains-append_left edges (added ∷ []) (record { block = s; to = to })
              ((known.leads s to).1 (ap (option_map class) (sym (get_or_append_left xs (Some t ∷ []) None s low)) ∙ e))
          | inr same ↦ (
              let told : Some (class t) ≡ Some to = sym (ap (λ n. option_map class (get_or more n None)) same ∙ ap (option_map class) here) ∙ e in
              let target : to ≡ class t = cc in
              there edges s to (length xs) (class t) same target)
        ]),
      );
      order = ascending_push edges added known.order before;
      symbols = All-push (λ (e : EdgeData). e.block < length more) edges added narrow (omega (arith, size));
    }

-- one more class
pub rows_more : (class : ℕ → ℕ) (rows : List (List (Option ℕ))) (firsts : List ℕ) (first : ℕ) (graph : List (List EdgeData)) (edges : List EdgeData)
    → AreRows class rows firsts graph → AreEdges class (get_or rows first []) edges → AreRows class rows (firsts ++ first ∷ []) (graph ++ edges ∷ [])
rows_more class rows firsts first graph edges known new =
    let size = length-append firsts (first ∷ []) in
    record {
      size = length-append graph (edges ∷ []) ∙ ap (λ n. n + 1) known.size ∙ sym size;
      edges = λ i inside. elim (last_or_before i (length firsts) (omega (arith, inside, size))) [
        | inl low ↦ (
            let P : ℕ → List EdgeData → Type 0 = λ f es. AreEdges class (get_or rows f []) es in
            let low_graph : i < length graph = omega (arith, low, known.size) in
            subst (λ f. P f (get_or (graph ++ edges ∷ []) i [])) (sym (get_or_append_left firsts (first ∷ []) 0 i low))
            (subst (λ es. P (get_or firsts i 0) es) (sym (get_or_append_left graph (edges ∷ []) [] i low_graph)) (known.edges i low)))
        | inr same ↦ (
            let P : ℕ → List EdgeData → Type 0 = λ f es. AreEdges class (get_or rows f []) es in
            let at_first : get_or (firsts ++ first ∷ []) i 0 ≡ first = ap (λ n. get_or (firsts ++ first ∷ []) n 0) same ∙ last_item firsts first 0 in
            let at_graph : get_or (graph ++ edges ∷ []) i [] ≡ edges =
            ap (λ n. get_or (graph ++ edges ∷ []) n []) (same ∙ sym known.size) ∙ last_item graph edges [] in
            subst (λ f. P f (get_or (graph ++ edges ∷ []) i [])) (sym at_first) (subst (λ es. P first es) (sym at_graph) new))
      ];
    }

mapped : (edges : List (Edge ℕ)) (e : Edge ℕ) → map (edge_data (λ (name : ℕ). name)) (edges ++ e ∷ [])
    ≡ map (edge_data (λ (name : ℕ). name)) edges ++ record { block = e.block.value; to = e.to } ∷ []
mapped [] e = refl
mapped (x ∷ edges) e = ap (λ (es : List EdgeData). edge_data (λ (name : ℕ). name) x ∷ es) (mapped edges e)

-- the loop over a row, at a symbol that leads to a state
pub edges_step_some : (classes : List ℕ) (row : List (Option ℕ)) (s t : ℕ) (edges more : List (Edge ℕ)) (e : Edge ℕ) → more ≡ edges ++ e ∷ []
    → s < length row → get_or row s None ≡ Some t → e.block.value ≡ s → e.to ≡ slice_index classes t
    → AreEdges (slice_index classes) (take s row) (map (edge_data (λ (name : ℕ). name)) edges)
    → AreEdges (slice_index classes) (take (s + 1) row) (map (edge_data (λ (name : ℕ). name)) more)
edges_step_some classes row s t edges more e joined inside item block to known =
    let class = slice_index classes in
    let size : length (take s row) ≡ s = length-take-le s row (omega (arith, inside)) in
    let next = edges_more class (take s row) t (map (edge_data (λ (name : ℕ). name)) edges) known in
    let same : record { block = length (take s row); to = class t } ≡ record { block = e.block.value; to = e.to } =
    ap (λ n. record { block = n; to = class t }) (size ∙ sym block) ∙ ap (λ n. record { block = e.block.value; to = n }) (sym to) in
    let row_same : take s row ++ Some t ∷ [] ≡ take (s + 1) row =
    ap (λ (o : Option ℕ). take s row ++ o ∷ []) (sym item) ∙ sym (take_more row s None inside) in
    let placed : AreEdges class (take (s + 1) row) (map (edge_data (λ (name : ℕ). name)) edges ++ record { block = e.block.value; to = e.to } ∷ []) =
    subst (λ (r : List (Option ℕ)). AreEdges class r (map (edge_data (λ (name : ℕ). name)) edges ++ record { block = e.block.value; to = e.to } ∷ [])) row_same
    (subst (λ (x : EdgeData). AreEdges class (take s row ++ Some t ∷ []) (map (edge_data (λ (name : ℕ). name)) edges ++ x ∷ [])) same next) in
    subst (λ (es : List (Edge ℕ)). AreEdges class (take (s + 1) row) (map (edge_data (λ (name : ℕ). name)) es)) (sym joined)
    (subst (λ (es : List EdgeData). AreEdges class (take (s + 1) row) es) (sym (mapped edges e)) placed)

-- and at one that leads nowhere
pub edges_step_none : (classes : List ℕ) (row : List (Option ℕ)) (s : ℕ) (edges : List EdgeData)
    → s < length row → get_or row s None ≡ None → AreEdges (slice_index classes) (take s row) edges
    → AreEdges (slice_index classes) (take (s + 1) row) edges
edges_step_none classes row s edges inside item known =
    let row_same : take s row ++ None ∷ [] ≡ take (s + 1) row =
    ap (λ (o : Option ℕ). take s row ++ o ∷ []) (sym item) ∙ sym (take_more row s None inside) in
    subst (λ (r : List (Option ℕ)). AreEdges (slice_index classes) r edges) row_same (edges_past (slice_index classes) (take s row) edges known)

rows_mapped : (graph : List (Vec (Edge ℕ))) (new : Vec (Edge ℕ)) → rows_data (λ (name : ℕ). name) (graph ++ new ∷ [])
    ≡ rows_data (λ (name : ℕ). name) graph ++ map (edge_data (λ (name : ℕ). name)) new.items ∷ []
rows_mapped [] new = refl
rows_mapped (row ∷ graph) new = ap (λ (rs : List (List EdgeData)). map (edge_data (λ (name : ℕ). name)) row.items ∷ rs) (rows_mapped graph new)

-- the loop over the classes, at a class
pub graph_step : (of classes : List ℕ) (rows : List (Vec (Option ℕ))) (firsts items : List ℕ) (i : ℕ) (graph more : List (Vec (Edge ℕ))) (new : Vec (Edge ℕ))
    (found : Vec (Option ℕ)) (row : List (Option ℕ)) → more ≡ graph ++ new ∷ [] → items ≡ firsts → classes ≡ of → i < length items
    → get_or items i 0 < length rows → found ≡ get_or rows (get_or items i 0) found → row ≡ found.items
    → AreEdges (slice_index classes) row (map (edge_data (λ (name : ℕ). name)) new.items)
    → AreRows (slice_index of) (rows_of rows) (take i firsts) (rows_data (λ (name : ℕ). name) graph)
    → AreRows (slice_index of) (rows_of rows) (take (i + 1) firsts) (rows_data (λ (name : ℕ). name) more)
graph_step of classes rows firsts items i graph more new found row joined same_items same_classes i_in first_in at row_is edges known =
    let first = get_or items i 0 in
    let old = rows_data (λ (name : ℕ). name) graph in
    let added = map (edge_data (λ (name : ℕ). name)) new.items in
    let here : AreEdges (slice_index of) (get_or (rows_of rows) first []) added =
    subst (λ (r : List (Option ℕ)). AreEdges (slice_index of) r added) (row_at rows first found row first_in at row_is)
    (subst (λ (l : List ℕ). AreEdges (slice_index l) row added) same_classes edges) in
    let next = rows_more (slice_index of) (rows_of rows) (take i firsts) first old added known here in
    let taken : take i firsts ++ first ∷ [] ≡ take (i + 1) firsts =
    ap (λ (l : List ℕ). take i firsts ++ get_or l i 0 ∷ []) same_items ∙ sym (take_more firsts i 0 (subst (λ (l : List ℕ). i < length l) same_items i_in)) in
    let placed = subst (λ (l : List ℕ). AreRows (slice_index of) (rows_of rows) l (old ++ added ∷ [])) taken next in
    subst (λ (g : List (Vec (Edge ℕ))). AreRows (slice_index of) (rows_of rows) (take (i + 1) firsts) (rows_data (λ (name : ℕ). name) g)) (sym joined)
    (subst (λ (g : List (List EdgeData)). AreRows (slice_index of) (rows_of rows) (take (i + 1) firsts) g) (sym (rows_mapped graph new)) placed)
