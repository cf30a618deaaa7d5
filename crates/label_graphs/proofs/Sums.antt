-- Sums over a state's edges and over their counts.
use Rattle.std.proofs.Common.{◌≡◌, ℕ, zero, suc, ◌+◌, ◌*◌, ◌<◌, List, [], ◌∷◌, length, get_or, map, Bool, true, false, cond, refl, ap, sym, ◌∙◌, arith}
use Rattle.std.specs.Prelude.{filter, nat_eq}
use Rattle.std.specs.List.{sum, range_with_len}
use Rattle.std.proofs.lemmas.Bool.{eq-eqb, ne_eqb}
use Rattle.std.proofs.lemmas.List.FromFn.{fill_by_all}
use Rattle.std.proofs.lemmas.List.Sums.{sum_by-cons}
use Rattle.label_graphs.specs.Graph.{EdgeData}
use Rattle.label_graphs.specs.Matrix.{CountsEdges}
use Rattle.label_graphs.specs.Vector.{target_sum, product_sum, row_sum}

pub sum-cons : (x : ℕ) (xs : List ℕ) → sum (x ∷ xs) ≡ x + sum xs
sum-cons x xs = sum_by-cons (λ (n : ℕ). n) x xs

abbrev one_at : ℕ → ℕ → ℕ
one_at to v = cond (nat_eq to v) 1 0

one_here : (to v : ℕ) → to ≡ v → one_at to v ≡ 1
one_here to v same = ap (λ b. cond {A = ℕ} b 1 0) (eq-eqb to v same)

none_here : (to v : ℕ) → (to ≡ v → ⊥) → one_at to v ≡ 0
none_here to v other = ap (λ b. cond {A = ℕ} b 1 0) (ne_eqb to v other)

-- products with sums of entries
product_added : (f g : ℕ → ℕ) (places x : List ℕ)
    → product_sum (map (λ v. f v + g v) places) x ≡ product_sum (map f places) x + product_sum (map g places) x
product_added f g [] x = refl
product_added f g (v ∷ places) [] = refl
product_added f g (v ∷ places) (w ∷ x) = let rest = product_added f g places x in omega (arith, rest)

product_none : (places x : List ℕ) → product_sum (map (λ (v : ℕ). 0) places) x ≡ 0
product_none [] x = refl
product_none (v ∷ places) [] = refl
product_none (v ∷ places) (w ∷ x) = let rest = product_none places x in omega (arith, rest)

-- an entry of 1 at one place, which is not among those from here on
product_past : (to from : ℕ) (x : List ℕ) → to < from
    → product_sum (map (one_at to) (range_with_len from (length x))) x ≡ 0
product_past to from [] past = refl
product_past to from (w ∷ x) past =
    let rest = product_past to (from + 1) x (omega (arith, past)) in
    let here : one_at to from ≡ 0 = none_here to from (λ same. omega (arith, same, past)) in
    omega (arith, rest, ap (λ n. n * w) here)

-- an entry of 1 at one place picks the number there
product_one : (to from place : ℕ) (x : List ℕ) → to ≡ from + place
    → product_sum (map (one_at to) (range_with_len from (length x))) x ≡ get_or x place 0
product_one to from place [] is = refl
product_one to from zero (w ∷ x) is =
    let rest = product_past to (from + 1) x (omega (arith, is)) in
    let here : one_at to from ≡ 1 = one_here to from (omega (arith, is)) in
    omega (arith, rest, ap (λ n. n * w) here)
product_one to from (suc place) (w ∷ x) is =
    let rest = product_one to (from + 1) place x (omega (arith, is)) in
    let here : one_at to from ≡ 0 = none_here to from (λ same. omega (arith, same, is)) in
    omega (arith, rest, ap (λ n. n * w) here)

-- how many edges of the row lead to a state
abbrev pub count_to : List EdgeData → ℕ → ℕ
count_to row to = length (filter (λ e. nat_eq e.to to) row)

count_by_test : (e : EdgeData) (row : List EdgeData) (to : ℕ) (b : Bool)
    → length (cond b (e ∷ filter (λ f. nat_eq f.to to) row) (filter (λ f. nat_eq f.to to) row)) ≡ cond b 1 0 + count_to row to
count_by_test e row to true = omega arith
count_by_test e row to false = omega arith

pub count_to-cons : (e : EdgeData) (row : List EdgeData) (to : ℕ) → count_to (e ∷ row) to ≡ one_at e.to to + count_to row to
count_to-cons e row to = count_by_test e row to (nat_eq e.to to)

map_same : (f g : ℕ → ℕ) (places : List ℕ) → ((v : ℕ) → f v ≡ g v) → map f places ≡ map g places
map_same f g [] same = refl
map_same f g (v ∷ places) same = let here = same v in let rest = map_same f g places same in cc

-- counts of a row's edges, times the numbers of their targets
counted : (row : List EdgeData) (x : List ℕ)
    → product_sum (map (count_to row) (range_with_len 0 (length x))) x ≡ sum (map (λ e. get_or x e.to 0) row)
counted [] x = product_none (range_with_len 0 (length x)) x
counted (e ∷ row) x =
    let places = range_with_len 0 (length x) in
    ap (λ (entries : List ℕ). product_sum entries x) (map_same (count_to (e ∷ row)) (λ v. one_at e.to v + count_to row v) places (count_to-cons e row))
    ∙ product_added (one_at e.to) (count_to row) places x
    ∙ ap (λ n. n + product_sum (map (count_to row) places) x) (product_one e.to 0 e.to x (omega arith))
    ∙ ap (λ n. get_or x e.to 0 + n) (counted row x)
    ∙ sym (sum-cons (get_or x e.to 0) (map (λ e. get_or x e.to 0) row))

-- the sum over a state's edges is that over their counts
pub counts_add_up : (rows : List (List EdgeData)) (matrix : List (List ℕ)) (x : List ℕ) (state : ℕ)
    → CountsEdges rows matrix → length x ≡ length rows → state < length rows → row_sum matrix x state ≡ target_sum rows x state
counts_add_up rows matrix x state counts size inside =
    let row = get_or matrix state [] in
    let wide : length row ≡ length x = counts.square state [] (let same = counts.size in omega (arith, same, inside)) ∙ sym size in
    ap (λ (entries : List ℕ). product_sum entries x)
    (fill_by_all (count_to (get_or rows state [])) row (length x) 0 wide
    (λ k below. counts.entries state k inside (omega (arith, below, size))))
    ∙ counted (get_or rows state []) x
