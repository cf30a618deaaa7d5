-- The edges of a row that are of a run: they stand one behind the other in the order by weight.
use Rattle.std.proofs.Common.{◌≡◌, ℕ, ◌+◌, ◌-◌, ◌<◌, ◌≤◌, List, [], ◌∷◌, ◌++◌, length, get_or, take, inl, inr, refl, ap, sym, ◌∙◌, subst, arith, length-append}
use Rattle.std.specs.Prelude.{◌↔◌, Bool, true, false, Contains, All, IsTrue}
use Rattle.std.proofs.Math.Bool.{not}
use Rattle.std.proofs.lemmas.Bool.{cases_lt, cases_eq}
use Rattle.std.proofs.lemmas.List.{get_or-map, length-map, map-append, get_or_append_left, get_or-append-add}
use Rattle.std.proofs.lemmas.List.{take_more, take-map, length-take-le, get_or-take}
use Rattle.std.proofs.lemmas.List.Elements.{All-contains, All-map, Contains-get_or, Contains-push, Contains-append_left, Contains-push_cases}
use Rattle.symbol_base.specs.Ascending.{IsAscending}
use Rattle.label_graphs.specs.declared.graph.Edge.{Edge}
use Rattle.label_graphs.specs.Graph.{EdgeData, IsEdgeBefore}
use Rattle.label_graphs.specs.Views.{edge_data}
use Rattle.split_spec.specs.Run.{IsLighter}
use Rattle.split_spec.specs.Round.{SplitData}
use Rattle.split_spec.proofs.OrderTold.{later_behind}
use Rattle.split_spec.proofs.OrderedRows.{lighter_strict, edge_strict}
use Rattle.split_spec.proofs.RunPlaces.{run_in_row}
use Rattle.state_split.specs.Views.{edges_data}
use Rattle.state_split.specs.inside.Parts.{ArePicked}
use Rattle.state_split.specs.inside.Splits.{HasRun}
use Rattle.state_split.proofs.Ascending.{appended_ascends}

-- ---- the place of a run

-- of two edges at places of a list in order, the one in front is the lighter
in_front_lighter : (x : List ℕ) (edges : List EdgeData) (i j : ℕ) (d e f : EdgeData) → IsAscending (IsLighter x) edges → get_or edges i d ≡ e
    → get_or edges j d ≡ f → i < j → j < length edges → IsLighter x e f
in_front_lighter x edges i j d e f order here there less inside =
    subst (λ (g : EdgeData). IsLighter x g f) here
    (subst (λ (g : EdgeData). IsLighter x (get_or edges i d) g) there (later_behind (IsLighter x) edges i j d (lighter_strict x) order less inside))

-- and the lighter one stands in front
lighter_in_front : (x : List ℕ) (edges : List EdgeData) (i j : ℕ) (d e f : EdgeData) → IsAscending (IsLighter x) edges → get_or edges i d ≡ e
    → get_or edges j d ≡ f → i < length edges → IsLighter x e f → i < j
lighter_in_front x edges i j d e f order here there inside lighter = elim (cases_lt i j) [
  | inl less ↦ less
  | inr more ↦ elim (cases_eq i j) [
    | inl same ↦ absurd (
        let equal : e ≡ f = sym here ∙ ap (λ k. get_or edges k d) same ∙ there in
        (lighter_strict x).never f (subst (λ (g : EdgeData). IsLighter x g f) equal lighter))
    | inr differ ↦ absurd (
        let back = in_front_lighter x edges j i d f e order there here (omega (arith, more, differ)) inside in
        (lighter_strict x).never e ((lighter_strict x).trans e f e lighter back))
  ]
]

-- an edge of the run stands behind those before it
run_at : (before run behind : List EdgeData) (k : ℕ) (d : EdgeData) → k < length run
    → get_or (before ++ (run ++ behind)) (length before + k) d ≡ get_or run k d
run_at before run behind k d inside = get_or-append-add before (run ++ behind) k d ∙ get_or_append_left run behind d k inside

-- all places of the list
places : (before run behind : List EdgeData) → length (before ++ (run ++ behind)) ≡ length before + (length run + length behind)
places before run behind = omega (arith, length-append before (run ++ behind), length-append run behind)

-- the edge is no lighter than the first one, and the last one no lighter than it
abbrev pub IsBetween : List ℕ → EdgeData → EdgeData → EdgeData → Type 0
IsBetween x first last e = (IsLighter x e first → ⊥) × (IsLighter x last e → ⊥)

-- an edge of the run is between its first and its last
run_between : (x : List ℕ) (before run behind : List EdgeData) (first last e : EdgeData) → IsAscending (IsLighter x) (before ++ (run ++ behind))
    → get_or run 0 e ≡ first → get_or run (length run - 1) e ≡ last → Contains run e → IsBetween x first last e
run_between x before run behind first last e order start end found =
    let all = before ++ (run ++ behind) in
    let count = places before run behind in
    let k = found.0 in
    let inside : k < length run = found.1 in
    let here : get_or all (length before + k) e ≡ e = run_at before run behind k e inside ∙ found.2 in
    let first_at : get_or all (length before + 0) e ≡ first = run_at before run behind 0 e (omega (arith, inside)) ∙ start in
    let last_at : get_or all (length before + (length run - 1)) e ≡ last = run_at before run behind (length run - 1) e (omega (arith, inside)) ∙ end in
    let k_in : length before + k < length all = omega (arith, inside, count) in
    let end_in : length before + (length run - 1) < length all = omega (arith, inside, count) in (
      (λ lighter. absurd (
          let less = lighter_in_front x all (length before + k) (length before + 0) e e first order here first_at k_in lighter in omega (arith, less))),
      (λ lighter. absurd (
          let less = lighter_in_front x all (length before + (length run - 1)) (length before + k) e last e order last_at here end_in lighter in
          omega (arith, less, inside))),
    )

-- and an edge of the row that is between them is of the run
between_in_run : (x : List ℕ) (before run behind : List EdgeData) (first last e : EdgeData) → IsAscending (IsLighter x) (before ++ (run ++ behind))
    → 0 < length run → get_or run 0 e ≡ first → get_or run (length run - 1) e ≡ last → Contains (before ++ (run ++ behind)) e
    → IsBetween x first last e → Contains run e
between_in_run x before run behind first last e order some start end found between =
    let all = before ++ (run ++ behind) in
    let count = places before run behind in
    let k = found.0 in
    let first_at : get_or all (length before + 0) e ≡ first = run_at before run behind 0 e some ∙ start in
    let last_at : get_or all (length before + (length run - 1)) e ≡ last = run_at before run behind (length run - 1) e (omega (arith, some)) ∙ end in
    let low : length before ≤ k = elim (cases_lt k (length before + 0)) [
      | inl less ↦ absurd (between.0 (in_front_lighter x all k (length before + 0) e e first order found.2 first_at less (omega (arith, some, count))))
      | inr more ↦ omega (arith, more)
    ] in
    let high : k < length before + length run = elim (cases_lt (length before + (length run - 1)) k) [
      | inl less ↦ absurd (between.1 (in_front_lighter x all (length before + (length run - 1)) k e last e order last_at found.2 less found.1))
      | inr more ↦ omega (arith, more, some)
    ] in
    let inside : k - length before < length run = omega (arith, low, high) in
    let back : length before + (k - length before) ≡ k = omega (arith, low) in
    (k - length before, inside, sym (run_at before run behind (k - length before) e inside) ∙ ap (λ i. get_or all i e) back ∙ found.2)

-- the first and the last edge of a run
pub record AreEnds (run : List EdgeData) (first last : EdgeData) : Type 0 where
  pub some : 0 < length run
  pub start : (d : EdgeData) → get_or run 0 d ≡ first
  pub end : (d : EdgeData) → get_or run (length run - 1) d ≡ last

-- an edge of the row is of its run exactly where it is between the ends
in_run_between : (x : List ℕ) (row : List EdgeData) (split : SplitData) (first last e : EdgeData) → HasRun x row split
    → AreEnds split.run first last → Contains row e → IsBetween x first last e ↔ Contains split.run e
in_run_between x row split first last e run ends found =
    let is = run.1 in
    let listed = (is.order.same e).1 found in (
      (λ between. between_in_run x is.before split.run is.behind first last e is.order.order ends.some (ends.start e) (ends.end e) listed between),
      (λ here. run_between x is.before split.run is.behind first last e is.order.order (ends.start e) (ends.end e) here),
    )

-- ---- what the tests tell

-- the record of an edge at a place
edge_at : (edges : List (Edge ℕ)) (k : ℕ) (e : Edge ℕ) (d : EdgeData) → k < length edges → e ≡ get_or edges k e
    → get_or (edges_data edges) k d ≡ edge_data (λ name. name) e
edge_at edges k e d inside there = get_or-map (edge_data (λ name. name)) edges k e d inside ∙ ap (edge_data (λ name. name)) (sym there)

-- the edge at a place of a row is one of its edges
pub edge_listed : (edges : List (Edge ℕ)) (k : ℕ) (e : Edge ℕ) → k < length edges → e ≡ get_or edges k e
    → Contains (edges_data edges) (edge_data (λ name. name) e)
edge_listed edges k e inside there =
    (k, (let count = length-map edges (edge_data (λ name. name)) in omega (arith, inside, count)), edge_at edges k e (edge_data (λ name. name) e) inside there)

-- the first and the last edge of a list that isn't empty
ends_of : (edges : List (Edge ℕ)) (first last : Edge ℕ) → 0 < length edges → first ≡ get_or edges 0 first
    → last ≡ get_or edges (length edges - 1) last → AreEnds (edges_data edges) (edge_data (λ name. name) first) (edge_data (λ name. name) last)
ends_of edges first last some start end =
    let count = length-map edges (edge_data (λ name. name)) in
    record {
      some = omega (arith, some, count);
      start = λ d. edge_at edges 0 first d some start;
      end = λ d. ap (λ n. get_or (edges_data edges) (n - 1) d) count ∙ edge_at edges (length edges - 1) last d (omega (arith, some)) end;
    }

-- the edges that are read at the two ends of a run
pub are_ends : (run : List EdgeData) (edges one other : List (Edge ℕ)) (first last : Edge ℕ) → edges_data edges ≡ run → one ≡ edges → other ≡ edges
    → 0 < length one → first ≡ get_or one 0 first → last ≡ get_or other (length other - 1) last
    → AreEnds run (edge_data (λ name. name) first) (edge_data (λ name. name) last)
are_ends run edges one other first last view here there some start end =
    subst (λ (es : List EdgeData). AreEnds es (edge_data (λ name. name) first) (edge_data (λ name. name) last)) view
    (ends_of edges first last (subst (λ (es : List (Edge ℕ)). 0 < length es) here some) (subst (λ (es : List (Edge ℕ)). first ≡ get_or es 0 first) here start)
    (subst (λ (es : List (Edge ℕ)). last ≡ get_or es (length es - 1) last) there end))

-- what holds of each edge of a run holds of its first
pub first_inside : (P : EdgeData → Type 0) (run : List EdgeData) (first last : EdgeData) → AreEnds run first last → All P run → P first
first_inside P run first last ends all = subst P (ends.start first) (all 0 first ends.some)

-- and of its last
pub last_inside : (P : EdgeData → Type 0) (run : List EdgeData) (first last : EdgeData) → AreEnds run first last → All P run → P last
last_inside P run first last ends all = subst P (ends.end last) (all (length run - 1) last (let some = ends.some in omega (arith, some)))

-- where the edge is no lighter than the first, the second test tells
told_by_last : {A B P : Type 0} (first last : Bool) → first ≡ false → (IsTrue first ↔ A) → (IsTrue last ↔ B) → (((A → ⊥) × (B → ⊥)) ↔ P)
    → IsTrue (not last) ↔ P
told_by_last first true known tells_first tells_last is = ((λ wrong. absurd (let w = wrong in cc)), (λ p. absurd ((is.1 p).1 (tells_last.0 refl))))
told_by_last first false known tells_first tells_last is = (
  (λ yes. is.0 ((λ a. absurd (let w = tells_first.1 a in cc)), (λ b. absurd (let w = tells_last.1 b in cc)))),
  (λ p. refl),
)

-- and where it is lighter, the first does
told_by_first : {A B P : Type 0} (first : Bool) → first ≡ true → (IsTrue first ↔ A) → (((A → ⊥) × (B → ⊥)) ↔ P) → IsTrue (not first) ↔ P
told_by_first true known tells is = ((λ wrong. absurd (let w = wrong in cc)), (λ p. absurd ((is.1 p).0 (tells.0 refl))))
told_by_first false known tells is = absurd (cc)

-- an edge that isn't lighter than the first of a run is of the run exactly where the second test fails
pub told_between : (x : List ℕ) (split : SplitData) (first last e : EdgeData) (one other : Bool) → AreEnds split.run first last → one ≡ false
    → (IsTrue one ↔ IsLighter x e first) → (IsTrue other ↔ IsLighter x last e)
    → (row : List EdgeData) → HasRun x row split → Contains row e → IsTrue (not other) ↔ Contains split.run e
told_between x split first last e one other ends known tells_one tells_other row run found =
    told_by_last one other known tells_one tells_other (in_run_between x row split first last e run ends found)

-- and one that is lighter isn't of it
pub told_outside : (x : List ℕ) (split : SplitData) (first last e : EdgeData) (one : Bool) → AreEnds split.run first last → one ≡ true
    → (IsTrue one ↔ IsLighter x e first)
    → (row : List EdgeData) → HasRun x row split → Contains row e → IsTrue (not one) ↔ Contains split.run e
told_outside x split first last e one ends known tells row run found =
    told_by_first one known tells (in_run_between x row split first last e run ends found)

-- ---- the edges that are picked

-- the edges of a run lead where the row's do
pub run_inside : (x : List ℕ) (row : List (Edge ℕ)) (split : SplitData) → HasRun x (edges_data row) split
    → All (λ (e : Edge ℕ). e.to < length x) row → All (λ (e : EdgeData). e.to < length x) split.run
run_inside x row split run inside = λ k d low.
    let e : EdgeData = get_or split.run k d in
    All-contains (λ (f : EdgeData). f.to < length x) (edges_data row) e (All-map (λ (f : EdgeData). f.to < length x) (edge_data (λ name. name)) row inside)
    (run_in_row run.0 x (edges_data row) split.run split.y run.1 e (Contains-get_or split.run k d low))

-- one more edge is picked, which stands behind the others
picked_push : (front edges : List EdgeData) (P : EdgeData → Type 0) (e : EdgeData) → ArePicked front P edges
    → ((f : EdgeData) → Contains front f → IsEdgeBefore f e) → P e → ArePicked (front ++ e ∷ []) P (edges ++ e ∷ [])
picked_push front edges P e known behind here = record {
  order = appended_ascends IsEdgeBefore edges (e ∷ []) known.order tt (λ f g left right. elim (Contains-push_cases [] e g right) [
    | inl none ↦ absurd (omega (arith, none.1))
    | inr same ↦ subst (λ (h : EdgeData). IsEdgeBefore f h) same (behind f ((known.exact f).0 left).0)
  ]);
  exact = λ f. (
    (λ found. elim (Contains-push_cases edges e f found) [
      | inl old ↦ (let both = (known.exact f).0 old in (Contains-append_left front (e ∷ []) f both.0, both.1))
      | inr same ↦ (subst (λ (h : EdgeData). Contains (front ++ e ∷ []) h) same (Contains-push front e), subst P same here)
    ]),
    (λ both. elim (Contains-push_cases front e f both.0) [
      | inl old ↦ Contains-append_left edges (e ∷ []) f ((known.exact f).1 (old, both.1))
      | inr same ↦ subst (λ (h : EdgeData). Contains (edges ++ e ∷ []) h) same (Contains-push edges e)
    ]),
  );
}

-- or it is left out
picked_without : (front edges : List EdgeData) (P : EdgeData → Type 0) (e : EdgeData) → ArePicked front P edges → (P e → ⊥)
    → ArePicked (front ++ e ∷ []) P edges
picked_without front edges P e known out = record {
  order = known.order;
  exact = λ f. (
    (λ found. let both = (known.exact f).0 found in (Contains-append_left front (e ∷ []) f both.0, both.1)),
    (λ both. elim (Contains-push_cases front e f both.0) [
      | inl old ↦ (known.exact f).1 (old, both.1)
      | inr same ↦ absurd (out (subst P (sym same) both.1))
    ]),
  );
}

-- the first edges of a row and the next one
taken_more : (row : List (Edge ℕ)) (i : ℕ) (e : Edge ℕ) → i < length row → e ≡ get_or row i e
    → edges_data (take (i + 1) row) ≡ edges_data (take i row) ++ edge_data (λ name. name) e ∷ []
taken_more row i e low there =
    ap edges_data (take_more row i e low ∙ ap (λ (f : Edge ℕ). take i row ++ f ∷ []) (sym there)) ∙ map-append (edge_data (λ name. name)) (take i row) (e ∷ [])

-- which stands behind them
taken_before : (row : List (Edge ℕ)) (i : ℕ) (e : Edge ℕ) → IsAscending IsEdgeBefore (edges_data row) → i < length row → e ≡ get_or row i e
    → (f : EdgeData) → Contains (edges_data (take i row)) f → IsEdgeBefore f (edge_data (λ name. name) e)
taken_before row i e order low there f found =
    let all = edges_data row in
    let count = length-map row (edge_data (λ name. name)) in
    let listed : Contains (take i all) f = subst (λ (es : List EdgeData). Contains es f) (sym (take-map (edge_data (λ name. name)) i row)) found in
    let k = listed.0 in
    let less : k < i = (let size = length-take-le i all (omega (arith, low, count)) in omega (arith, listed.1, size)) in
    let here : get_or all k f ≡ f = sym (get_or-take i all k f less) ∙ listed.2 in
    subst (λ (g : EdgeData). IsEdgeBefore g (edge_data (λ name. name) e)) here
    (subst (λ (g : EdgeData). IsEdgeBefore (get_or all k f) g) (edge_at row i e f low there)
    (later_behind IsEdgeBefore all k i f edge_strict order less (omega (arith, low, count))))

-- the next edge of the row is picked
pub edge_picked : (row : List (Edge ℕ)) (i : ℕ) (e : Edge ℕ) (P : EdgeData → Type 0) (old new : List (Edge ℕ))
    → ArePicked (edges_data (take i row)) P (edges_data old) → IsAscending IsEdgeBefore (edges_data row) → i < length row → e ≡ get_or row i e
    → new ≡ old ++ e ∷ [] → P (edge_data (λ name. name) e) → ArePicked (edges_data (take (i + 1) row)) P (edges_data new)
edge_picked row i e P old new known order low there pushed here =
    let f : EdgeData = edge_data (λ name. name) e in
    subst (λ (es : List EdgeData). ArePicked es P (edges_data new)) (sym (taken_more row i e low there))
    (subst (λ (es : List EdgeData). ArePicked (edges_data (take i row) ++ f ∷ []) P es)
    (sym (ap edges_data pushed ∙ map-append (edge_data (λ name. name)) old (e ∷ [])))
    (picked_push (edges_data (take i row)) (edges_data old) P f known (taken_before row i e order low there) here))

-- or left out
pub edge_left : (row : List (Edge ℕ)) (i : ℕ) (e : Edge ℕ) (P : EdgeData → Type 0) (old new : List (Edge ℕ))
    → ArePicked (edges_data (take i row)) P (edges_data old) → i < length row → e ≡ get_or row i e → new ≡ old
    → (P (edge_data (λ name. name) e) → ⊥) → ArePicked (edges_data (take (i + 1) row)) P (edges_data new)
edge_left row i e P old new known low there same out =
    subst (λ (es : List EdgeData). ArePicked es P (edges_data new)) (sym (taken_more row i e low there))
    (subst (λ (es : List (Edge ℕ)). ArePicked (edges_data (take i row) ++ edge_data (λ name. name) e ∷ []) P (edges_data es)) (sym same)
    (picked_without (edges_data (take i row)) (edges_data old) P (edge_data (λ name. name) e) known out))
