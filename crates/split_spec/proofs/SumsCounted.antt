-- Sums of weights of at least 1 count what is added up: states, and edges.
use Rattle.std.proofs.Common.{◌≡◌, ℕ, ◌<◌, ◌≤◌, List, [], ◌∷◌, length, get_or, map, ap, arith}
use Rattle.std.specs.Prelude.{All, Contains, slice_index}
use Rattle.std.specs.List.{sum, range_with_len}
use Rattle.std.proofs.lemmas.List.{get_or-map, length-map}
use Rattle.std.proofs.lemmas.List.Elements.{All-head, All-tail}
use Rattle.std.proofs.lemmas.List.FromFn.{fill_by_all}
use Rattle.std.proofs.lemmas.List.Sums.{sum-map, sum_by-cons, sum_by-le-sum_by}
use Rattle.label_graphs.specs.Graph.{EdgeData}
use Rattle.label_graphs.specs.Power.{edge_count}
use Rattle.label_graphs.specs.Sink.{spread}
use Rattle.label_graphs.specs.Vector.{target_sum}
use Rattle.split_spec.specs.Weighted.{HasPositiveWeights, WeightedData}
use Rattle.split_spec.specs.Run.{weight_of}
use Rattle.split_spec.proofs.EdgeEnds.{target_inside}
use Rattle.split_spec.proofs.Listed.{listed_first, listed_behind}
use Rattle.split_spec.proofs.SumsBounded.{weight-cons}

-- no more numbers than they add up to, where each is 1 or more
pub counted_numbers : (weights : List ℕ) → All (λ weight. 0 < weight) weights → length weights ≤ sum weights
counted_numbers [] positive = omega arith
counted_numbers (weight ∷ weights) positive =
    let here = All-head (λ n. 0 < n) weight weights positive in
    let rest = counted_numbers weights (All-tail (λ n. 0 < n) weight weights positive) in
    let more = sum_by-cons (λ (n : ℕ). n) weight weights in
    omega (arith, here, rest, more)

-- no more edges than their targets weigh
pub counted_edges : (x : List ℕ) (row : List EdgeData) → ((e : EdgeData) → Contains row e → 0 < slice_index x e.to) → length row ≤ weight_of x row
counted_edges x [] positive = omega arith
counted_edges x (e ∷ row) positive =
    let here = positive e (listed_first e row) in
    let rest = counted_edges x row (λ f found. positive f (listed_behind e row f found)) in
    let more = weight-cons x e row in
    omega (arith, here, rest, more)

-- a state has no more edges than these lead to weights
row_counted : (g : WeightedData) (state : ℕ) → HasPositiveWeights g → length (get_or g.rows state []) ≤ target_sum g.rows g.weights state
row_counted g state known =
    counted_edges g.weights (get_or g.rows state []) (λ e found.
    let there = target_inside g.rows state e.block e.to known.graph found in
    known.positive e.to 0 (let size = known.size in omega (arith, there, size)))

-- and so all states together
counted_rows : (g : WeightedData) → HasPositiveWeights g → edge_count g.rows ≤ spread g.rows g.weights
counted_rows g known =
    let states = range_with_len 0 (length g.rows) in
    let count : ℕ → ℕ = λ state. length (get_or g.rows state []) in
    let lengths = map (λ (row : List EdgeData). length row) g.rows in
    let by_state : lengths ≡ map count states =
    fill_by_all count lengths (length g.rows) 0 (length-map g.rows (λ (row : List EdgeData). length row))
    (λ state inside. get_or-map (λ (row : List EdgeData). length row) g.rows state [] 0 inside) in
    let all = ap sum by_state in
    let one = sum-map count states in
    let other = sum-map (λ state. target_sum g.rows g.weights state) states in
    let most = sum_by-le-sum_by count (λ state. target_sum g.rows g.weights state) states (λ state. row_counted g state known) in
    omega (arith, all, one, other, most)

-- no more states than the weights add up to, and no more edges than the weights that these lead to
pub graphs_are_no_larger : (g : WeightedData) → HasPositiveWeights g
    → (length g.rows ≤ sum g.weights) × (edge_count g.rows ≤ spread g.rows g.weights)
graphs_are_no_larger g known =
    (let states = counted_numbers g.weights known.positive in let size = known.size in omega (arith, states, size), counted_rows g known)
