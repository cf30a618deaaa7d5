-- How the spread grows by a state, and why it fits.
use Rattle.std.proofs.Common.{◌≡◌, ℕ, zero, suc, ◌+◌, ◌<◌, ◌≤◌, List, [], ◌∷◌, length, get_or, map, take, ap, ◌∙◌, arith}
use Rattle.std.specs.List.{sum, range_with_len}
use Rattle.std.proofs.lemmas.List.{take_more}
use Rattle.std.proofs.lemmas.List.FromFn.{sum_by-map-range_with_len_more}
use Rattle.std.proofs.lemmas.List.Sums.{sum_by-cons}
use Rattle.label_graphs.specs.Graph.{EdgeData}
use Rattle.label_graphs.specs.Power.{edge_count}
use Rattle.label_graphs.specs.Vector.{target_sum}
use Rattle.label_graphs.proofs.KeptCounts.{edges_more}

count-cons : (row : List EdgeData) (rows : List (List EdgeData)) → edge_count (row ∷ rows) ≡ length row + edge_count rows
count-cons row rows = sum_by-cons (λ (n : ℕ). n) (length row) (map (λ row. length row) rows)

front_le : (rows : List (List EdgeData)) (n : ℕ) → edge_count (take n rows) ≤ edge_count rows
front_le [] zero = omega arith
front_le [] (suc n) = omega arith
front_le (row ∷ rows) zero = omega arith
front_le (row ∷ rows) (suc n) =
    let rest = front_le rows n in
    let here = count-cons row rows in
    let there = count-cons row (take n rows) in
    omega (arith, rest, here, there)

-- the edges of the states so far and those of the next one are some of all
pub edges_so_far : (rows : List (List EdgeData)) (n : ℕ) → n < length rows
    → (edge_count (take (n + 1) rows) ≡ edge_count (take n rows) + length (get_or rows n []))
    × (edge_count (take n rows) + length (get_or rows n []) ≤ edge_count rows)
edges_so_far rows n inside =
    let more : edge_count (take (n + 1) rows) ≡ edge_count (take n rows) + length (get_or rows n []) =
    ap edge_count (take_more rows n [] inside) ∙ edges_more (take n rows) (get_or rows n []) in
    let all = front_le rows (n + 1) in
    (more, omega (arith, more, all))

-- one more state
pub spread_more : (rows : List (List EdgeData)) (weights : List ℕ) (n total part : ℕ) (row : List EdgeData) → row ≡ get_or rows n []
    → total ≡ sum (map (λ state. target_sum rows weights state) (range_with_len 0 n))
    → part ≡ sum (map (λ e. get_or weights e.to 0) row)
    → total + part ≡ sum (map (λ state. target_sum rows weights state) (range_with_len 0 (n + 1)))
spread_more rows weights n total part row at known is =
    let more = sum_by-map-range_with_len_more (λ (m : ℕ). m) (λ state. target_sum rows weights state) 0 n n (omega arith) in
    let here : part ≡ target_sum rows weights n = is ∙ ap (λ (es : List EdgeData). sum (map (λ e. get_or weights e.to 0) es)) at in
    omega (arith, more, here, known)
