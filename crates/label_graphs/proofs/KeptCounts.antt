-- A part of a graph has no more edges than the graph.
use Rattle.std.proofs.Common.{◌≡◌, ℕ, zero, suc, ◌+◌, ◌≤◌, List, [], ◌∷◌, ◌++◌, length, get_or, map, take, Bool, inl, inr, ap, ◌∙◌, subst, arith, add-one}
use Rattle.std.specs.Prelude.{filter}
use Rattle.std.proofs.lemmas.Bool.{cases_Bool}
use Rattle.std.proofs.lemmas.List.{length-map, map-append, take_more, take_all}
use Rattle.std.proofs.lemmas.List.Sums.{length-filter, count_by-le-length}
use Rattle.label_graphs.specs.Graph.{EdgeData}
use Rattle.label_graphs.specs.Power.{edge_count}
use Rattle.label_graphs.specs.inside.Numbers.{passing, renumbered, kept_rows}
use Rattle.label_graphs.proofs.Ranks.{passing_more, passing_same}
use Rattle.label_graphs.proofs.Renumbered.{new_edge}
use Rattle.label_graphs.proofs.Sums.{sum-cons}

-- one more row adds its edges
pub edges_more : (rows : List (List EdgeData)) (row : List EdgeData) → edge_count (rows ++ row ∷ []) ≡ edge_count rows + length row
edges_more [] row = let one = sum-cons (length row) [] in omega (arith, one)
edges_more (first ∷ rows) row =
    let rest = edges_more rows row in
    let here = sum-cons (length first) (map (λ row. length row) rows) in
    let there = sum-cons (length first) (map (λ row. length row) (rows ++ row ∷ [])) in
    omega (arith, rest, here, there)

no_longer : (test : ℕ → Bool) (row : List EdgeData) → length (renumbered test row) ≤ length row
no_longer test row =
    let T : EdgeData → Bool = λ e. test e.to in
    let size = length-map (filter T row) (new_edge test) in
    let kept = length-filter T row in
    let most = count_by-le-length T row in
    omega (arith, size, kept, most)

fewer_so_far : (test : ℕ → Bool) (graph : List (List EdgeData)) (n : ℕ) → n ≤ length graph
    → edge_count (kept_rows test graph n) ≤ edge_count (take n graph)
fewer_so_far test graph zero inside = omega arith
fewer_so_far test graph (suc n) inside =
    let F : ℕ → List EdgeData = λ state. renumbered test (get_or graph state []) in
    let rest = fewer_so_far test graph n (omega (arith, inside)) in
    let row = get_or graph n [] in
    let all : edge_count (take (n + 1) graph) ≡ edge_count (take n graph) + length row =
    ap edge_count (take_more graph n [] (omega (arith, inside))) ∙ edges_more (take n graph) row in
    subst (λ m. edge_count (kept_rows test graph m) ≤ edge_count (take m graph)) (add-one n)
    (elim (cases_Bool (test n)) [
      | inl passes ↦ (
          let more : edge_count (kept_rows test graph (n + 1)) ≡ edge_count (kept_rows test graph n) + length (F n) =
          ap edge_count (ap (map F) (passing_more test n passes) ∙ map-append F (passing test n) (n ∷ [])) ∙ edges_more (kept_rows test graph n) (F n) in
          let short = no_longer test row in
          omega (arith, rest, all, more, short))
      | inr fails ↦ (
          let same : edge_count (kept_rows test graph (n + 1)) ≡ edge_count (kept_rows test graph n) =
          ap (λ (states : List ℕ). edge_count (map F states)) (passing_same test n fails) in
          omega (arith, rest, all, same))
    ])

-- the rows that are kept have no more edges than all rows
pub no_more_edges : (graph kept : List (List EdgeData)) (test : ℕ → Bool) → kept ≡ kept_rows test graph (length graph) → edge_count kept ≤ edge_count graph
no_more_edges graph kept test is =
    let fewer = fewer_so_far test graph (length graph) (omega arith) in
    let all : edge_count (take (length graph) graph) ≡ edge_count graph = ap edge_count (take_all (length graph) graph (omega arith)) in
    let same : edge_count kept ≡ edge_count (kept_rows test graph (length graph)) = ap edge_count is in
    omega (arith, fewer, all, same)
