-- The definitions on an example that is known: no two 0s in a row, three symbols for two bits, so that n is 4.
use Rattle.std.proofs.Common.{◌≡◌, ◌↔◌, ℕ, zero, suc, ◌+◌, ◌*◌, ◌<◌, Bool, true, ◌&&◌, eqb, ltb, inl, inr, refl, sym, subst, arith}
use Rattle.std.proofs.Common.{List, [], ◌∷◌, ◌++◌, All, take, get_or}
use Rattle.std.specs.Prelude.{Contains, Some, slice_get, slice_index}
use Rattle.std.specs.List.{flat_map, list_all, list_any}
use Rattle.std.proofs.lemmas.Bool.{and_parts, eqb-true, ltb-true}
use Rattle.std.proofs.lemmas.List.Elements.{All-contains, All-from_recursion}
use Rattle.std.proofs.lemmas.List.Sums.{AllPass-from_list_all}
use Rattle.std.proofs.lemmas.Option.{slice_get_within, same_Some}
use Rattle.std.proofs.lemmas.Map.Views.{Contains-from_any}
use Rattle.symbol_base.specs.Ascending.{IsAscending}
use Rattle.symbol_base.proofs.AscendingNumbers.{first_or_rest}
use Rattle.label_graphs.specs.Graph.{EdgeData, IsEdgeBefore, HasEdge, IsGraph}
use Rattle.split_spec.specs.Weighted.{WeightedData}
use Rattle.split_spec.specs.Run.{IsLightestFirst, weight_of, AgreeAt, IsRun}
use Rattle.split_spec.specs.Round.{SplitData, IsSplit, IsWhole, Leaves, whole, in_run, in_rest, IsRound}
use Rattle.split_spec.proofs.EdgeEnds.{edge_to}
use Rattle.split_spec.proofs.Listed.{listed_first, listed_flat, flat_listed}
use Rattle.split_spec.proofs.OrderedRows.{same_edge}
use Rattle.split_spec.proofs.RoundEdges.{leaves_whole, leaves_run, leaves_rest}
use Rattle.split_spec.proofs.RoundHalves.{AreHalves, halves}
use Rattle.split_spec.proofs.RoundTargets.{leads, lead_known, lead_listed}
use Rattle.split_spec.proofs.RunAlone.{a_row_has_one_run}

-- whether two edges are one
abbrev edge_eq : EdgeData → EdgeData → Bool
edge_eq e f = eqb e.block f.block && eqb e.to f.to

edge_eq-true : (e f : EdgeData) → edge_eq e f ≡ true → e ≡ f
edge_eq-true e f test =
    let both = and_parts (eqb e.block f.block) (eqb e.to f.to) test in
    same_edge e f (eqb-true e.block f.block both.0) (eqb-true e.to f.to both.1)

-- whether the second edges hold the first ones
abbrev are_listed : List EdgeData → List EdgeData → Bool
are_listed es fs = list_all (λ e. list_any (edge_eq e) fs) es

listed_by : (es fs : List EdgeData) → are_listed es fs ≡ true → (e : EdgeData) → Contains es e → Contains fs e
listed_by es fs test e found =
    Contains-from_any edge_eq-true e fs
    (All-contains (λ (f : EdgeData). list_any (edge_eq f) fs ≡ true) es e (AllPass-from_list_all (λ f. list_any (edge_eq f) fs) es test) found)

-- where the sums of no edge, of one and of two ascend and are below 4, no two of them agree
none_agree : (x : List ℕ) (all : List EdgeData) (a b : ℕ) → weight_of x (take 1 all) ≡ a → weight_of x (take 2 all) ≡ b → 0 < a → a < b → b < 4
    → (i j : ℕ) → i < j → j < 3 → AgreeAt 4 x all i j → ⊥
none_agree x all a b one two some more low i zero up below agree = absurd (omega (arith, up))
none_agree x all a b one two some more low zero (suc zero) up below agree =
    absurd (let same : weight_of x (take 1 all) ≡ 0 + 4 * agree.0 = agree.1 in omega (arith, same, one, some, more, low))
none_agree x all a b one two some more low (suc i) (suc zero) up below agree = absurd (omega (arith, up))
none_agree x all a b one two some more low zero (suc (suc zero)) up below agree =
    absurd (let same : weight_of x (take 2 all) ≡ 0 + 4 * agree.0 = agree.1 in omega (arith, same, two, some, more, low))
none_agree x all a b one two some more low (suc zero) (suc (suc zero)) up below agree =
    absurd (let same : weight_of x (take 2 all) ≡ weight_of x (take 1 all) + 4 * agree.0 = agree.1 in omega (arith, same, one, two, more, low))
none_agree x all a b one two some more low (suc (suc i)) (suc (suc zero)) up below agree = absurd (omega (arith, up))
none_agree x all a b one two some more low i (suc (suc (suc j))) up below agree = absurd (omega (arith, below))

-- The sink: behind a 1 the blocks 010, 011, 101, 110 and 111 may follow, behind a 0 all of these that begin with 1.
abbrev pub row_0 : List EdgeData
row_0 = edge_to 2 1 ∷ edge_to 3 0 ∷ edge_to 5 0 ∷ edge_to 6 1 ∷ edge_to 7 0 ∷ []

abbrev pub row_1 : List EdgeData
row_1 = edge_to 5 0 ∷ edge_to 6 1 ∷ edge_to 7 0 ∷ []

abbrev pub sink : WeightedData
sink = record { rows = row_0 ∷ row_1 ∷ []; weights = 2 ∷ 1 ∷ [] }

-- state 0: of its edges in order the weights add up to 0, 1, 2 and 4, which is 0 again modulo 4
abbrev pub run_0 : List EdgeData
run_0 = edge_to 2 1 ∷ edge_to 6 1 ∷ edge_to 3 0 ∷ []

abbrev pub rest_0 : List EdgeData
rest_0 = edge_to 5 0 ∷ edge_to 7 0 ∷ []

order_of_0 : IsLightestFirst sink.weights row_0 (run_0 ++ rest_0)
order_of_0 = record {
  order = (inr (refl, inl (omega arith)), (inl (omega arith), (inr (refl, inl (omega arith)), (inr (refl, inl (omega arith)), tt))));
  same = λ e. (listed_by (run_0 ++ rest_0) row_0 refl e, listed_by row_0 (run_0 ++ rest_0) refl e);
}

run_of_0 : IsRun 4 sink.weights row_0 run_0 1
run_of_0 = record {
  before = [];
  behind = rest_0;
  order = order_of_0;
  some = omega arith;
  early = omega arith;
  weight = refl;
  first = none_agree sink.weights (run_0 ++ rest_0) 1 2 refl refl (omega arith) (omega arith) (omega arith);
}

-- state 1: they add up to 0, 1, 3 and 5, which is 1 again
abbrev pub run_1 : List EdgeData
run_1 = edge_to 5 0 ∷ edge_to 7 0 ∷ []

order_of_1 : IsLightestFirst sink.weights row_1 (edge_to 6 1 ∷ run_1)
order_of_1 = record {
  order = (inl (omega arith), (inr (refl, inl (omega arith)), tt));
  same = λ e. (listed_by (edge_to 6 1 ∷ run_1) row_1 refl e, listed_by row_1 (edge_to 6 1 ∷ run_1) refl e);
}

run_of_1 : IsRun 4 sink.weights row_1 run_1 1
run_of_1 = record {
  before = edge_to 6 1 ∷ [];
  behind = [];
  order = order_of_1;
  some = omega arith;
  early = omega arith;
  weight = refl;
  first = none_agree sink.weights (edge_to 6 1 ∷ run_1) 1 3 refl refl (omega arith) (omega arith) (omega arith);
}

-- so state 0, which weighs 2, is split, and state 1, which weighs 1, is not
abbrev pub split : SplitData
split = record { state = 0; run = run_0; y = 1 }

split_of_0 : IsSplit 4 sink split
split_of_0 = record { inside = omega arith; run = run_of_0; lighter = omega arith }

only_split : (state : ℕ) (run : List EdgeData) (y : ℕ) → IsSplit 4 sink (record { state = state; run = run; y = y })
    → Contains (split ∷ []) (record { state = state; run = run; y = y })
only_split zero run y is =
    let same = a_row_has_one_run 4 sink.weights row_0 run_0 run 1 y run_of_0 is.run in
    (0, omega arith, λ i. record { state = 0; run = same.0 i; y = same.1 i })
only_split (suc zero) run y is =
    let same = a_row_has_one_run 4 sink.weights row_1 run_1 run 1 y run_of_1 is.run in
    let less : y < 1 = is.lighter in
    absurd (omega (arith, same.1, less))
only_split (suc (suc state)) run y is = absurd (let inside = is.inside in omega (arith, inside))

-- The round: parts 0 and 2 are those of state 0, with its run and with the rest.
abbrev pub parts : WeightedData
parts = record {
  rows = (edge_to 2 1 ∷ edge_to 3 0 ∷ edge_to 3 2 ∷ edge_to 6 1 ∷ []) ∷ (edge_to 5 0 ∷ edge_to 5 2 ∷ edge_to 6 1 ∷ edge_to 7 0 ∷ edge_to 7 2 ∷ [])
      ∷ (edge_to 5 0 ∷ edge_to 5 2 ∷ edge_to 7 0 ∷ edge_to 7 2 ∷ []) ∷ [];
  weights = 1 ∷ 1 ∷ 1 ∷ [];
}

abbrev pub parents : List ℕ
parents = 0 ∷ 1 ∷ 0 ∷ []

-- state 0 alone is split
the_split : (other : SplitData) → Contains (split ∷ []) other → split ≡ other
the_split other found = elim (first_or_rest split other [] found) [
  | inl same ↦ same
  | inr none ↦ absurd (omega (arith, none.1))
]

split_inside : (other : SplitData) → Contains (split ∷ []) other → other.state < 2
split_inside other found = subst (λ (s : SplitData). s.state < 2) (the_split other found) (omega arith)

whole_1 : IsWhole (split ∷ []) 1
whole_1 = All-from_recursion (λ (s : SplitData). s.state ≡ 1 → ⊥) (split ∷ []) ((λ same. absurd (omega (arith, same))), tt)

-- the two graphs are graphs
targets_by : (rows : List (List EdgeData)) (count : ℕ) → list_all (λ row. list_all (λ e. ltb e.to count) row) rows ≡ true
    → All (All (λ e. e.to < count)) rows
targets_by rows count test k d k_in i e i_in =
    ltb-true (get_or (get_or rows k d) i e).to count
    (AllPass-from_list_all (λ e. ltb e.to count) (get_or rows k d)
    (AllPass-from_list_all (λ row. list_all (λ e. ltb e.to count) row) rows test k d k_in) i e i_in)

pub sink_graph : IsGraph sink.rows
sink_graph = record {
  count = omega arith;
  order = All-from_recursion (IsAscending IsEdgeBefore) sink.rows (
    (inl (omega arith), (inl (omega arith), (inl (omega arith), (inl (omega arith), tt)))),
    ((inl (omega arith), (inl (omega arith), tt)), tt),
  );
  targets = targets_by sink.rows 2 refl;
}

pub parts_graph : IsGraph parts.rows
parts_graph = record {
  count = omega arith;
  order = All-from_recursion (IsAscending IsEdgeBefore) parts.rows (
    (inl (omega arith), (inr (refl, omega arith), (inl (omega arith), tt))),
    (
      (inr (refl, omega arith), (inl (omega arith), (inl (omega arith), (inr (refl, omega arith), tt)))),
      ((inr (refl, omega arith), (inl (omega arith), (inr (refl, omega arith), tt))), tt),
    ),
  );
  targets = targets_by parts.rows 3 refl;
}

-- the edges of the run and the others are those of state 0
halves_of_0 : AreHalves sink.weights row_0 run_0 rest_0
halves_of_0 = halves sink.weights row_0 [] run_0 rest_0 (sink_graph.order 0 [] (omega arith)) order_of_0

-- what leaves each part
leaves_0 : (e : EdgeData) → Contains run_0 e ↔ Leaves sink.rows (split ∷ []) 0 e
leaves_0 e = (
  (λ found. in_run split (listed_first split []) refl found),
  (λ leaves. leaves_run sink.rows (split ∷ []) split_inside split e tt (listed_first split []) leaves),
)

leaves_1 : (e : EdgeData) → Contains row_1 e ↔ Leaves sink.rows (split ∷ []) 1 e
leaves_1 e = (
  (λ found. whole (omega arith) whole_1 found),
  (λ leaves. leaves_whole sink.rows (split ∷ []) split_inside 1 e whole_1 (omega arith) leaves),
)

leaves_2 : (e : EdgeData) → Contains rest_0 e ↔ Leaves sink.rows (split ∷ []) 2 e
leaves_2 e = (
  (λ found. in_rest 0 split refl refl (halves_of_0.of_others e found) (λ run. halves_of_0.apart e run found)),
  (λ leaves.
      let both = leaves_rest sink.rows (split ∷ []) split_inside 0 split e refl leaves in
      elim (halves_of_0.either e both.0) [
        | inl run ↦ absurd (both.1 run)
        | inr other ↦ other
      ]),
)

-- there are no more parts
leaves_none : (part : ℕ) (e : EdgeData) → 2 < part → Leaves sink.rows (split ∷ []) part e → ⊥
leaves_none part e high (whole low is_whole edge) = absurd (omega (arith, high, low))
leaves_none part e high (in_run other found same edge) = absurd (let low = split_inside other found in omega (arith, high, low, same))
leaves_none part e high (in_rest place other at is edge fails) =
    absurd (let low = slice_get_within (split ∷ []) place other at in omega (arith, high, low, is))

-- a part's edges lead to all parts of the targets of what leaves it
edges_of : (part : ℕ) (taken row : List EdgeData) → are_listed row (flat_map (leads parents) taken) ≡ true
    → are_listed (flat_map (leads parents) taken) row ≡ true
    → ((e : EdgeData) → Contains taken e ↔ Leaves sink.rows (split ∷ []) part e)
    → (block to : ℕ) → Contains row (edge_to block to) ↔ (to < 3) × Leaves sink.rows (split ∷ []) part (edge_to block (slice_index parents to))
edges_of part taken row made kept leaves block to = (
  (λ found.
      let old = listed_flat (leads parents) taken (edge_to block to) (listed_by row (flat_map (leads parents) taken) made (edge_to block to) found) in
      let known = lead_known parents old.0 (edge_to block to) old.2 in
      (known.0, (leaves (edge_to block (slice_index parents to))).0 (subst (λ (e : EdgeData). Contains taken e) (sym known.1) old.1))),
  (λ told.
      listed_by (flat_map (leads parents) taken) row kept (edge_to block to)
      (flat_listed (leads parents) taken (edge_to block (slice_index parents to)) (edge_to block to)
      ((leaves (edge_to block (slice_index parents to))).1 told.1) (lead_listed parents (edge_to block to) told.0))),
)

edges_of_parts : (from block to : ℕ) → HasEdge parts.rows from block to
    ↔ (to < 3) × Leaves sink.rows (split ∷ []) from (edge_to block (slice_index parents to))
edges_of_parts zero block to = edges_of 0 run_0 (get_or parts.rows 0 []) refl refl leaves_0 block to
edges_of_parts (suc zero) block to = edges_of 1 row_1 (get_or parts.rows 1 []) refl refl leaves_1 block to
edges_of_parts (suc (suc zero)) block to = edges_of 2 rest_0 (get_or parts.rows 2 []) refl refl leaves_2 block to
edges_of_parts (suc (suc (suc from))) block to = (
  (λ found. absurd (omega (arith, found.1))),
  (λ told. absurd (leaves_none (suc (suc (suc from))) (edge_to block (slice_index parents to)) (omega arith) told.1)),
)

-- the weights of a state that isn't split, of its parts where it is
weight_whole : (state : ℕ) → state < 2 → IsWhole (split ∷ []) state → slice_index parts.weights state ≡ slice_index sink.weights state
weight_whole zero inside unsplit = absurd (unsplit 0 split (omega arith) refl)
weight_whole (suc zero) inside unsplit = refl
weight_whole (suc (suc state)) inside unsplit = absurd (omega (arith, inside))

weight_rest : (place : ℕ) (other : SplitData) → slice_get (split ∷ []) place ≡ Some other
    → slice_index parts.weights (2 + place) + other.y ≡ slice_index sink.weights other.state
weight_rest zero other at = subst (λ (s : SplitData). 1 + s.y ≡ slice_index sink.weights s.state) (same_Some split other at) refl
weight_rest (suc place) other at = absurd (let inside = slice_get_within (split ∷ []) (suc place) other at in omega (arith, inside))

pub round : IsRound 4 sink (split ∷ []) parts parents
round = record {
  order = tt;
  exact = λ other. (
    (λ found. subst (λ (s : SplitData). IsSplit 4 sink s) (the_split other found) split_of_0),
    (λ is. only_split other.state other.run other.y is),
  );
  parents_are = refl;
  graph = parts_graph;
  rows_size = refl;
  weights_size = refl;
  whole = weight_whole;
  run = λ other found. subst (λ (s : SplitData). slice_index parts.weights s.state ≡ s.y) (the_split other found) refl;
  rest = weight_rest;
  edges = edges_of_parts;
}
