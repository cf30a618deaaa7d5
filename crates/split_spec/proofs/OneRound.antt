-- A round leads to one graph: its splits are told by the graph, and the new graph by the splits.
use Rattle.std.proofs.Common.{◌≡◌, ℕ, ◌+◌, ◌-◌, ◌<◌, List, ◌++◌, length, map, inl, inr, ap, sym, ◌∙◌, subst, arith}
use Rattle.std.specs.Prelude.{slice_index}
use Rattle.std.specs.List.{range_with_len}
use Rattle.std.proofs.lemmas.Bool.{cases_lt}
use Rattle.std.proofs.lemmas.List.{same_lists, get_or_default}
use Rattle.label_graphs.proofs.EdgeOrder.{same_graphs}
use Rattle.split_spec.specs.Weighted.{WeightedData}
use Rattle.split_spec.specs.Round.{SplitData, IsRound}
use Rattle.split_spec.proofs.OrderTold.{IsStrictOrder, ascending_same}
use Rattle.split_spec.proofs.RoundParts.{IsSplitBefore, split_or_whole, some_split, parents_size}

-- the order of splits is strict
split_strict : IsStrictOrder IsSplitBefore
split_strict = record {
  trans = λ a b c one other. omega (arith, one, other);
  never = λ a less. absurd (omega (arith, less));
}

-- the splits are those that the graph has
same_splits : (n : ℕ) (g h k : WeightedData) (splits others : List SplitData) (parents fathers : List ℕ)
    → IsRound n g splits h parents → IsRound n g others k fathers → splits ≡ others
same_splits n g h k splits others parents fathers one other =
    ascending_same IsSplitBefore splits others split_strict one.order other.order
    (λ split found. (other.exact split).1 ((one.exact split).0 found)) (λ split found. (one.exact split).1 ((other.exact split).0 found))

-- a state keeps its weight or has that of its run
old_weight : (n : ℕ) (g h k : WeightedData) (splits : List SplitData) (parents : List ℕ) (state : ℕ) → IsRound n g splits h parents
    → IsRound n g splits k parents → state < length g.rows → slice_index h.weights state ≡ slice_index k.weights state
old_weight n g h k splits parents state one other inside = elim (split_or_whole splits state) [
  | inr whole ↦ one.whole state inside whole ∙ sym (other.whole state inside whole)
  | inl found ↦ (
      let split = found.0 in
      let here = one.run split found.1 in
      let there = other.run split found.1 in
      subst (λ s. slice_index h.weights s ≡ slice_index k.weights s) found.2 (here ∙ sym there))
]

-- a new part has what the run leaves
new_weight : (n : ℕ) (g h k : WeightedData) (splits : List SplitData) (parents : List ℕ) (place : ℕ) → IsRound n g splits h parents
    → IsRound n g splits k parents → place < length splits
    → slice_index h.weights (length g.rows + place) ≡ slice_index k.weights (length g.rows + place)
new_weight n g h k splits parents place one other inside =
    let found = some_split splits place inside in
    let here = one.rest place found.0 found.1 in
    let there = other.rest place found.0 found.1 in
    omega (arith, here, there)

-- so all states have the same weights
same_weights : (n : ℕ) (g h k : WeightedData) (splits : List SplitData) (parents : List ℕ) → IsRound n g splits h parents
    → IsRound n g splits k parents → h.weights ≡ k.weights
same_weights n g h k splits parents one other =
    let count = parents_size (length g.rows) splits parents one.parents_are in
    let size : length h.weights ≡ length k.weights = one.weights_size ∙ sym other.weights_size in
    same_lists h.weights k.weights size (λ state d inside.
    let within : state < length k.weights = omega (arith, inside, size) in
    let total = one.weights_size in
    let same : slice_index h.weights state ≡ slice_index k.weights state = elim (cases_lt state (length g.rows)) [
      | inl low ↦ old_weight n g h k splits parents state one other low
      | inr high ↦ (
          let place = state - length g.rows in
          let back : length g.rows + place ≡ state = omega (arith, high) in
          subst (λ s. slice_index h.weights s ≡ slice_index k.weights s) back
          (new_weight n g h k splits parents place one other (omega (arith, inside, total, count, high))))
    ] in
    get_or_default h.weights state d 0 inside ∙ same ∙ get_or_default k.weights state 0 d within)

-- and the same edges
same_rows : (n : ℕ) (g h k : WeightedData) (splits : List SplitData) (parents : List ℕ) → IsRound n g splits h parents
    → IsRound n g splits k parents → h.rows ≡ k.rows
same_rows n g h k splits parents one other =
    same_graphs h.rows k.rows one.graph other.graph (one.rows_size ∙ sym other.rows_size)
    (λ from block to edge. (other.edges from block to).1 ((one.edges from block to).0 edge))
    (λ from block to edge. (one.edges from block to).1 ((other.edges from block to).0 edge))

-- a graph with weights is told by its rows and its weights
same_graph : (h k : WeightedData) → h.rows ≡ k.rows → h.weights ≡ k.weights → h ≡ k
same_graph h k rows weights = λ i. record { rows = rows i; weights = weights i }

-- at most one graph follows by a round, with the same splits and the same parents
pub one_round_follows : (n : ℕ) (g h k : WeightedData) (splits others : List SplitData) (parents fathers : List ℕ)
    → IsRound n g splits h parents → IsRound n g others k fathers → (splits ≡ others) × (h ≡ k) × (parents ≡ fathers)
one_round_follows n g h k splits others parents fathers one other =
    let split = same_splits n g h k splits others parents fathers one other in
    let parent : parents ≡ fathers =
    one.parents_are ∙ ap (λ (ss : List SplitData). range_with_len 0 (length g.rows) ++ map (λ split. split.state) ss) split ∙ sym other.parents_are in
    let second : IsRound n g splits k parents =
    subst (λ (ps : List ℕ). IsRound n g splits k ps) (sym parent) (subst (λ (ss : List SplitData). IsRound n g ss k fathers) (sym split) other) in
    (split, same_graph h k (same_rows n g h k splits parents one second) (same_weights n g h k splits parents one second), parent)
