-- The rows of the links: what is marked for a state, the edges to what is marked, and the graph of all rows.
use Rattle.std.proofs.Common.{◌≡◌, ℕ, ◌+◌, ◌<◌, ◌≤◌, List, [], ◌∷◌, ◌++◌, length, length-append, get_or, set, take, map, Bool, true, false, inl, inr, ap, sym, ◌∙◌, subst, arith}
use Rattle.std.specs.Prelude.{Contains}
use Rattle.std.proofs.lemmas.Bool.{cases_lt, cases_eq}
use Rattle.std.proofs.lemmas.List.{get_or_append_left, get_or_push, get_or_default, get_or-set_same, get_or-set_other, get_or-map, length-set, length-map, map-append, take_more}
use Rattle.std.proofs.lemmas.List.Elements.{Contains-append_left, Contains-push, Contains-push_cases, Contains-get_or}
use Rattle.symbol_base.specs.Ascending.{IsAscending}
use Rattle.symbol_base.proofs.AscendingNumbers.{filter_ascends}
use Rattle.label_graphs.specs.declared.graph.Edge.{Edge}
use Rattle.label_graphs.specs.Graph.{EdgeData, IsEdgeBefore, IsGraph}
use Rattle.label_graphs.specs.Kept.{marked_states}
use Rattle.label_graphs.specs.Views.{edge_data}
use Rattle.label_graphs.specs.inside.Numbers.{is_marked}
use Rattle.label_graphs.proofs.Marks.{marked_listed, listed_marked}
use Rattle.label_graphs.proofs.Renumbered.{source_of, target_of}
use Rattle.sink_part.specs.inside.Links.{Marked, AreMarkedTargets, AreMarkedBy, link_to, AreLinks, IsLinkRow, AreLinkRows}

-- an edge to a state of positive weight marks it
pub marks_set : (row : List EdgeData) (e : EdgeData) (weights : List ℕ) (n : ℕ) (marks : List Bool) → AreMarkedBy row weights n marks
    → e.to < n → 0 < get_or weights e.to 0 → AreMarkedBy (row ++ e ∷ []) weights n (set marks e.to true)
marks_set row e weights n marks known inside positive =
    let in_marks : e.to < length marks = (let size = known.size in omega (arith, size, inside)) in
    record {
      size = length-set marks e.to true ∙ known.size;
      each = λ to. elim (cases_eq to e.to) [
        | inl same ↦ (
          (λ marked. (
            e.block,
            subst (λ t. Contains (row ++ e ∷ []) (record { block = e.block; to = t })) (sym same) (Contains-push row e),
            subst (λ t. 0 < get_or weights t 0) (sym same) positive,
          )),
          (λ found. subst (λ t. Marked (set marks e.to true) t) (sym same) (get_or-set_same marks e.to true false in_marks)),
        )
        | inr other ↦ (
          (λ marked.
              let old = (known.each to).0 (sym (get_or-set_other marks e.to to true false other) ∙ marked) in
              (old.0, Contains-append_left row (e ∷ []) (record { block = old.0; to = to }) old.1, old.2)),
          (λ found. elim (Contains-push_cases row e (record { block = found.0; to = to }) found.1) [
            | inl before ↦ get_or-set_other marks e.to to true false other ∙ (known.each to).1 (found.0, before, found.2)
            | inr here ↦ absurd (other (sym (ap (λ (f : EdgeData). f.to) here)))
          ]),
        )
      ];
    }

-- one to a state of weight 0 marks nothing
pub marks_left : (row : List EdgeData) (e : EdgeData) (weights : List ℕ) (n : ℕ) (marks : List Bool) → AreMarkedBy row weights n marks
    → get_or weights e.to 0 ≤ 0 → AreMarkedBy (row ++ e ∷ []) weights n marks
marks_left row e weights n marks known none = record {
  size = known.size;
  each = λ to. (
    (λ marked. let old = (known.each to).0 marked in (old.0, Contains-append_left row (e ∷ []) (record { block = old.0; to = to }) old.1, old.2)),
    (λ found. elim (Contains-push_cases row e (record { block = found.0; to = to }) found.1) [
      | inl before ↦ (known.each to).1 (found.0, before, found.2)
      | inr here ↦ absurd (let same : e.to ≡ to = ap (λ (f : EdgeData). f.to) here in let up = found.2 in omega (arith, none, up, ap (λ t. get_or weights t 0) same))
    ]),
  );
}

-- the edges so far and the next one
pub edges_taken : (edges : List (Edge ℕ)) (i : ℕ) (e : Edge ℕ) → i < length edges → e ≡ get_or edges i e
    → map (edge_data (λ name. name)) (take (i + 1) edges) ≡ map (edge_data (λ name. name)) (take i edges) ++ edge_data (λ name. name) e ∷ []
edges_taken edges i e inside at =
    ap (map (edge_data (λ name. name))) (take_more edges i e inside ∙ ap (λ (x : Edge ℕ). take i edges ++ x ∷ []) (sym at))
    ∙ map-append (edge_data (λ name. name)) (take i edges) (e ∷ [])

links_ascend : (states : List ℕ) → IsAscending (λ s t. s < t) states → IsAscending IsEdgeBefore (map link_to states)
links_ascend [] order = tt
links_ascend (s ∷ []) order = tt
links_ascend (s ∷ t ∷ states) order = (inl order.0, links_ascend (t ∷ states) order.1)

-- the edges to what is marked
pub link_row : (rows : List (List EdgeData)) (weights : List ℕ) (from : ℕ) (marks : List Bool) (row : List EdgeData) → AreMarkedTargets rows weights from marks
    → row ≡ map link_to (marked_states marks) → IsLinkRow rows weights from row
link_row rows weights from marks row known is =
    let states = marked_states marks in
    subst (λ (es : List EdgeData). IsLinkRow rows weights from es) (sym is)
    (record {
      order = links_ascend states (filter_ascends (is_marked marks) 0 (length marks));
      edges = λ block to. (
        (λ found.
            let inside : found.0 < length states = (let size = length-map states link_to in omega (arith, found.1, size)) in
            let s = get_or states found.0 0 in
            let here : link_to s ≡ record { block = block; to = to } = sym (get_or-map link_to states found.0 0 (record { block = block; to = to }) inside) ∙ found.2 in
            let same : s ≡ to = ap (λ (e : EdgeData). e.to) here in
            let there : Marked marks to = subst (λ t. Marked marks t) same (listed_marked marks s (Contains-get_or states found.0 0 inside)) in
            (sym (ap (λ (e : EdgeData). e.block) here) ∙ same, (known.each to).0 there)),
        (λ link.
            let found = marked_listed marks to ((known.each to).1 link.1) in
            let there : Contains (map link_to states) (link_to to) =
            (found.0, (let size = length-map states link_to in omega (arith, found.1, size)), get_or-map link_to states found.0 to (link_to to) found.1 ∙ ap link_to found.2) in
            subst (λ b. Contains (map link_to states) (record { block = b; to = to })) (sym link.0) there),
      );
    })

-- one more row
pub link_rows_more : (rows : List (List EdgeData)) (weights : List ℕ) (links more : List (List EdgeData)) (n : ℕ) (row : List EdgeData)
    → AreLinkRows rows weights links n → IsLinkRow rows weights n row → more ≡ links ++ row ∷ [] → AreLinkRows rows weights more (n + 1)
link_rows_more rows weights links more n row known new joined =
    let size = known.size in
    subst (λ (es : List (List EdgeData)). AreLinkRows rows weights es (n + 1)) (sym joined)
    (record {
      size = (let longer = length-append links (row ∷ []) in omega (arith, longer, size));
      each = λ from inside. elim (cases_lt from n) [
        | inl low ↦ subst (λ (es : List EdgeData). IsLinkRow rows weights from es) (sym (get_or_append_left links (row ∷ []) [] from (omega (arith, low, size)))) (known.each from low)
        | inr high ↦ (
            let last : n ≡ from = omega (arith, high, inside) in
            subst (λ (es : List EdgeData). IsLinkRow rows weights from es) (sym (get_or_push links row [] from (size ∙ last)))
            (subst (λ k. IsLinkRow rows weights k row) last new))
      ];
    })

-- all rows are a graph
pub links_are_graph : (rows : List (List EdgeData)) (weights : List ℕ) (links : List (List EdgeData)) (n : ℕ) → IsGraph rows → AreLinkRows rows weights links n
    → n ≡ length rows → IsGraph links
links_are_graph rows weights links n graph known all =
    let size = known.size in
    let row_at : (k : ℕ) (d : List EdgeData) → k < length links → IsLinkRow rows weights k (get_or links k d) =
    λ k d inside. subst (λ (es : List EdgeData). IsLinkRow rows weights k es) (get_or_default links k [] d inside) (known.each k (omega (arith, inside, size))) in
    record {
      count = (let count = graph.count in omega (arith, count, size, all));
      order = λ k d inside. (row_at k d inside).order;
      targets = λ k d inside j e j_in.
          let f : EdgeData = get_or (get_or links k d) j e in
          let link = ((row_at k d inside).edges f.block f.to).0 (Contains-get_or (get_or links k d) j e j_in) in
          let low = target_of rows k link.1.0 f.to graph (omega (arith, inside, size, all)) link.1.1.0 in
          omega (arith, low, size, all);
    }

-- and have the links as edges
pub links_are_all : (rows : List (List EdgeData)) (weights : List ℕ) (links : List (List EdgeData)) (n : ℕ) → IsGraph rows → AreLinkRows rows weights links n
    → n ≡ length rows → AreLinks rows weights links
links_are_all rows weights links n graph known all =
    let size = known.size in
    record {
      graph = graph;
      links_graph = links_are_graph rows weights links n graph known all;
      size = size ∙ all;
      edges = λ from block to. (
        (λ edge.
            let inside = source_of links from block to edge in
            ((known.each from (omega (arith, inside, size))).edges block to).0 edge),
        (λ link.
            let inside = source_of rows from link.1.0 to link.1.1.0 in
            ((known.each from (omega (arith, inside, all))).edges block to).1 link),
      );
    }
