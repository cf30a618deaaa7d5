-- The rows of the classes are the cover.
use Rattle.std.proofs.Common.{◌≡◌, ◌↔◌, ℕ, ◌<◌, ◌≤◌, List, [], ◌∷◌, ◌++◌, length, get_or, Option, None, inl, inr, ap, sym, ◌∙◌, subst, arith}
use Rattle.std.specs.Global.{Vec}
use Rattle.std.specs.Prelude.{slice_index, All, Contains}
use Rattle.std.proofs.lemmas.Bool.{cases_lt}
use Rattle.std.proofs.lemmas.List.Elements.{All-get_or, Contains-get_or}
use Rattle.std.proofs.lemmas.List.{get_or_default}
use Rattle.min_cover.proofs.Pigeons.{no_more_raws}
use Rattle.std.proofs.Math.ListN.{get_or-eq_default}
use Rattle.symbol_base.specs.Ascending.{IsAscending}
use Rattle.constraint_spec.specs.Constraint.{ConstraintData, IsWordOf}
use Rattle.constraint_spec.specs.Ranges.{IsConstraint}
use Rattle.constraint_spec.specs.RawStateOf.{first_raw_state}
use Rattle.label_graphs.specs.Graph.{EdgeData, IsEdgeBefore, HasEdge, IsGraph}
use Rattle.label_graphs.specs.Cover.{IsCover, IsCoverOf, KeepsSymbols}
use Rattle.min_cover.specs.StateCounts.{HaveRawStates}
use Rattle.min_cover.specs.inside.Raw.{step_raw}
use Rattle.min_cover.specs.inside.Search.{IsNumbered, IsSearched, class_edge}
use Rattle.min_cover.specs.inside.Found.{raw_at, next_in, AreFollowers}
use Rattle.min_cover.specs.inside.Classes.{IsTable, IsRefined, rows_of, width_of}
use Rattle.min_cover.specs.inside.Rows.{AreRows, AreRowsOfCover}
use Rattle.min_cover.proofs.SearchSteps.{search-numbered, search-searched}
use Rattle.min_cover.proofs.FoundSteps.{same_table, table_end}
use Rattle.min_cover.proofs.Found.{cover-found}
use Rattle.min_cover.proofs.Edges.{cover-edges}
use Rattle.min_cover.proofs.ByFirst.{classes_few}
use Rattle.min_cover.proofs.Rounds.{size_of_rows}
use Rattle.std.proofs.lemmas.Bool.{cases_order}

-- the rows of all states number the machine
followers_numbered : (c : ConstraintData) (rows : List (List (Option ℕ))) (all : AreFollowers c rows)
    → IsNumbered (step_raw c) (length rows) (raw_at c all.keys) (next_in rows)
followers_numbered c rows all =
    let found = all.found in
    let told = same_table c all.keys found.word (length rows) 0 (next_in (rows ++ [] ∷ [])) (next_in rows)
    (λ j t. ap (λ (r : List (Option ℕ)). get_or r t None) (sym (table_end rows j))) found.searching in
    subst (λ n. IsNumbered (step_raw c) n (raw_at c all.keys) (next_in rows)) (sym all.all)
    (search-numbered (step_raw c) (first_raw_state c) (next_in rows) (length all.keys) (raw_at c all.keys) found.word (length rows) 0 told all.all)

distinct : (c : ConstraintData) (rows : List (List (Option ℕ))) (all : AreFollowers c rows) (a m : ℕ) → a < length all.keys → m < length all.keys
    → raw_at c all.keys a ≡ raw_at c all.keys m → a ≡ m
distinct c rows all a m a_in m_in same = elim (cases_order a m) [
  | inl equal ↦ equal
  | inr apart ↦ elim apart [
    | inl less ↦ absurd (all.found.different a m less m_in same)
    | inr more ↦ absurd (all.found.different m a more a_in (sym same))
  ]
]

followers_searched : (c : ConstraintData) (rows : List (List (Option ℕ))) (all : AreFollowers c rows)
    → IsSearched (next_in rows) (length rows) all.found.word
followers_searched c rows all =
    let found = all.found in
    let told = same_table c all.keys found.word (length rows) 0 (next_in (rows ++ [] ∷ [])) (next_in rows)
    (λ j t. ap (λ (r : List (Option ℕ)). get_or r t None) (sym (table_end rows j))) found.searching in
    subst (λ n. IsSearched (next_in rows) n found.word) (sym all.all)
    (search-searched (step_raw c) (first_raw_state c) (next_in rows) (length all.keys) (raw_at c all.keys) found.word (length rows) 0 told all.all (distinct c rows all))

some_row : (c : ConstraintData) (rows : List (List (Option ℕ))) (all : AreFollowers c rows) → 0 < length rows
some_row c rows all = let some = all.found.searching.some in let same = all.all in omega (arith, some, same)

pub followers_width : (c : ConstraintData) (rows : List (List (Option ℕ))) (all : AreFollowers c rows) → width_of rows ≡ c.alphabet
followers_width c rows all = All-get_or (λ (row : List (Option ℕ)). length row ≡ c.alphabet) rows 0 [] (some_row c rows all) all.width

-- they are a table
pub followers_table : (c : ConstraintData) (rows : List (List (Option ℕ))) (all : AreFollowers c rows) → IsTable (width_of rows) rows
followers_table c rows all = record {
  few = all.few;
  width = λ i inside. All-get_or (λ (row : List (Option ℕ)). length row ≡ c.alphabet) rows i [] inside all.width ∙ sym (followers_width c rows all);
  closed = λ i symbol t inside e. (followers_numbered c rows all).closed i symbol t inside e;
}

-- the edges of the rows are those of the classes
edges_of_rows : (class : ℕ → ℕ) (rows : List (List (Option ℕ))) (firsts : List ℕ) (graph : List (List EdgeData)) → AreRows class rows firsts graph
    → (u s v : ℕ) → class_edge (next_in rows) class (length firsts) (slice_index firsts) u s v ↔ HasEdge graph u s v
edges_of_rows class rows firsts graph known u s v = (
  (λ edge. ((known.edges u edge.0).leads s v).1 edge.1),
  (λ edge. elim (cases_lt u (length firsts)) [
    | inl inside ↦ (inside, ((known.edges u inside).leads s v).0 edge)
    | inr past ↦ absurd (
        let none : get_or graph u [] ≡ [] = get_or-eq_default graph [] {n = u} (omega (arith, past, known.size)) in
        let place : edge.0 < length (get_or graph u []) = edge.1 in
        let size : length (get_or graph u []) ≡ 0 = ap (λ (es : List EdgeData). length es) none in
        omega (arith, place, size))
  ]),
)

-- the rows of the classes are the cover
pub rows_are_cover : (c : ConstraintData) (rows : List (List (Option ℕ))) (of firsts : List ℕ) (graph : List (List EdgeData)) → IsConstraint c
    → AreFollowers c rows → IsRefined (next_in rows) (length rows) of firsts → AreRows (slice_index of) rows firsts graph
    → IsCoverOf (IsWordOf c) graph
rows_are_cover c rows of firsts graph ranges all refined known =
    let next = next_in rows in
    let found = cover-found c (length rows) (raw_at c all.keys) next all.found.word (slice_index of) (length firsts) (slice_index firsts) ranges
    (followers_numbered c rows all) all.found.searching.first (followers_searched c rows all) refined.by_first refined.stable refined.told in
    let edges = edges_of_rows (slice_index of) rows firsts graph known in
    subst (λ n. IsCover (IsWordOf c) n (HasEdge graph)) (sym known.size)
    (cover-edges (IsWordOf c) (length firsts) (class_edge next (slice_index of) (length firsts) (slice_index firsts)) (HasEdge graph) found edges)

-- the rows are those of a graph
pub rows_are_graph : (class : ℕ → ℕ) (rows : List (List (Option ℕ))) (firsts : List ℕ) (graph : List (List EdgeData)) → AreRows class rows firsts graph
    → length firsts ≤ 4096 → ((u s v : ℕ) → HasEdge graph u s v → v < length graph) → IsGraph graph
rows_are_graph class rows firsts graph known few inside = record {
  count = (let size = known.size in omega (arith, size, few));
  order = λ k d k_in.
      subst (λ (es : List EdgeData). IsAscending IsEdgeBefore es) (get_or_default graph k [] d k_in)
      (known.edges k (omega (arith, k_in, known.size))).order;
  targets = λ k d k_in j e j_in.
      let edge = get_or (get_or graph k d) j e in
      let there : Contains (get_or graph k d) edge = Contains-get_or (get_or graph k d) j e j_in in
      let at : Contains (get_or graph k []) edge = subst (λ (es : List EdgeData). Contains es edge) (get_or_default graph k d [] k_in) there in
      inside k edge.block edge.to at;
}

-- the rows of a cover of at most 256 states keep what a cover as a value keeps
pub rows_keep_symbols : (c : ConstraintData) (rows : List (List (Option ℕ))) (of firsts : List ℕ) (graph : List (List EdgeData)) → IsConstraint c
    → AreFollowers c rows → IsRefined (next_in rows) (length rows) of firsts → AreRows (slice_index of) rows firsts graph
    → IsCoverOf (IsWordOf c) graph → length graph ≤ 256 → KeepsSymbols (record { graph = graph; alphabet = c.alphabet })
rows_keep_symbols c rows of firsts graph ranges all refined known cover few = record {
  alphabet = ranges.alphabet;
  states = (let some = cover.some in (omega (arith, some), few));
  symbols = λ k d k_in j e j_in.
      let k_first : k < length firsts = omega (arith, k_in, known.size) in
      let first_in = (refined.by_first.member k k_first).0 in
      let width = All-get_or (λ (row : List (Option ℕ)). length row ≡ c.alphabet) rows (slice_index firsts k) [] first_in all.width in
      let same = get_or_default graph k [] d k_in in
      let low : All (λ (x : EdgeData). x.block < length (get_or rows (slice_index firsts k) [])) (get_or graph k d) =
      subst (λ (es : List EdgeData). All (λ (x : EdgeData). x.block < length (get_or rows (slice_index firsts k) [])) es) same (known.edges k k_first).symbols in
      let below = low j e j_in in
      omega (arith, below, width);
  single = λ u s v w one two. cover.single u s v w one two;
}

-- no more raw states exist than rows
pub followers_all : (c : ConstraintData) (rows : List (List (Option ℕ))) → IsConstraint c → AreFollowers c rows → HaveRawStates c 4097 → ⊥
followers_all c rows ranges all =
    no_more_raws c (length rows) 4096 (raw_at c all.keys) (next_in rows) ranges (followers_numbered c rows all) (some_row c rows all)
    all.found.searching.first all.few

-- what the rows, their classes and the rows of these give
pub found_graph : (c : ConstraintData) (rows ones others : List (Vec (Option ℕ))) (of firsts : List ℕ) (graph : List (List EdgeData)) → IsConstraint c
    → ones ≡ rows → others ≡ rows → AreFollowers c (rows_of rows) → IsRefined (next_in (rows_of ones)) (length ones) of firsts
    → AreRows (slice_index of) (rows_of others) firsts graph → AreRowsOfCover c graph
found_graph c rows ones others of firsts graph ranges one other all refined known =
    let plain = rows_of rows in
    let classes : IsRefined (next_in plain) (length plain) of firsts =
    subst (λ n. IsRefined (next_in plain) n of firsts) (sym (size_of_rows rows))
    (subst (λ (l : List (Vec (Option ℕ))). IsRefined (next_in (rows_of l)) (length l) of firsts) one refined) in
    let edges : AreRows (slice_index of) plain firsts graph =
    subst (λ (l : List (Vec (Option ℕ))). AreRows (slice_index of) (rows_of l) firsts graph) other known in
    let cover = rows_are_cover c plain of firsts graph ranges all classes edges in
    let most = classes_few (length plain) (slice_index of) (length firsts) (slice_index firsts) classes.by_first in
    record {
      cover = cover;
      graph = rows_are_graph (slice_index of) plain firsts graph edges (let few = all.few in omega (arith, few, most))
          (λ u s v edge. (cover.inside u s v edge).1);
      symbols = λ few. rows_keep_symbols c plain of firsts graph ranges all classes edges cover few;
      few = followers_all c plain ranges all;
    }

-- the rows are a table
pub found_table : (c : ConstraintData) (rows ones : List (Vec (Option ℕ))) → ones ≡ rows → AreFollowers c (rows_of rows)
    → IsTable (width_of (rows_of ones)) (rows_of ones)
found_table c rows ones one all =
    subst (λ (l : List (Vec (Option ℕ))). IsTable (width_of (rows_of l)) (rows_of l)) (sym one) (followers_table c (rows_of rows) all)

-- the first members are states
pub firsts_inside : (step : ℕ → ℕ → Option ℕ) (n m : ℕ) (of firsts : List ℕ) → IsRefined step n of firsts → n ≡ m → All (λ first. first < m) firsts
firsts_inside step n m of firsts refined same k d k_in =
    let here = (refined.by_first.member k k_in).0 in
    let at : get_or firsts k 0 ≡ get_or firsts k d = get_or_default firsts k 0 d k_in in
    omega (arith, here, at, same)
