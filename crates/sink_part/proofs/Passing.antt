-- What is listed for the marked states below a number, and how it grows with the number.
use Rattle.std.proofs.Common.{◌≡◌, ℕ, ◌+◌, ◌≤◌, List, [], ◌∷◌, ◌++◌, length, get_or, map, Bool, true, false, ap, ◌∙◌, arith}
use Rattle.std.specs.List.{sum}
use Rattle.std.proofs.lemmas.List.{length-map, map-append}
use Rattle.std.proofs.lemmas.List.Sums.{sum_by-append, sum_by-cons}
use Rattle.label_graphs.specs.Sink.{total_weight}
use Rattle.label_graphs.specs.inside.Numbers.{is_marked, passing}
use Rattle.label_graphs.proofs.Ranks.{passing_more, passing_same, rank_most}
use Rattle.sink_part.specs.inside.Links.{link_to}

mapped_more : {A : Type 0} (f : ℕ → A) (marks : List Bool) (n : ℕ) → get_or marks n false ≡ true
    → map f (passing (is_marked marks) (n + 1)) ≡ map f (passing (is_marked marks) n) ++ f n ∷ []
mapped_more f marks n passes = ap (map f) (passing_more (is_marked marks) n passes) ∙ map-append f (passing (is_marked marks) n) (n ∷ [])

mapped_same : {A : Type 0} (f : ℕ → A) (marks : List Bool) (n : ℕ) → get_or marks n false ≡ false
    → map f (passing (is_marked marks) (n + 1)) ≡ map f (passing (is_marked marks) n)
mapped_same f marks n fails = ap (map f) (passing_same (is_marked marks) n fails)

-- the weights of the marked states
pub items_more : (weights : List ℕ) (marks : List Bool) (n : ℕ) → get_or marks n false ≡ true
    → map (λ state. get_or weights state 0) (passing (is_marked marks) (n + 1)) ≡ map (λ state. get_or weights state 0) (passing (is_marked marks) n) ++ get_or weights n 0 ∷ []
items_more weights = mapped_more (λ state. get_or weights state 0)

pub items_same : (weights : List ℕ) (marks : List Bool) (n : ℕ) → get_or marks n false ≡ false
    → map (λ state. get_or weights state 0) (passing (is_marked marks) (n + 1)) ≡ map (λ state. get_or weights state 0) (passing (is_marked marks) n)
items_same weights = mapped_same (λ state. get_or weights state 0)

pub no_more_items : (weights : List ℕ) (marks : List Bool) (n : ℕ) → length (map (λ state. get_or weights state 0) (passing (is_marked marks) n)) ≤ n
no_more_items weights marks n =
    let size = length-map (passing (is_marked marks) n) (λ state. get_or weights state 0) in
    let most = rank_most (is_marked marks) n in
    omega (arith, size, most)

-- links to the marked states
pub links_more : (marks : List Bool) (n : ℕ) → get_or marks n false ≡ true
    → map link_to (passing (is_marked marks) (n + 1)) ≡ map link_to (passing (is_marked marks) n) ++ link_to n ∷ []
links_more = mapped_more link_to

pub links_same : (marks : List Bool) (n : ℕ) → get_or marks n false ≡ false → map link_to (passing (is_marked marks) (n + 1)) ≡ map link_to (passing (is_marked marks) n)
links_same = mapped_same link_to

-- and their weights, added up
pub total_more : (weights : List ℕ) (marks : List Bool) (n : ℕ) → get_or marks n false ≡ true
    → total_weight weights (passing (is_marked marks) (n + 1)) ≡ total_weight weights (passing (is_marked marks) n) + get_or weights n 0
total_more weights marks n passes =
    let before = map (λ state. get_or weights state 0) (passing (is_marked marks) n) in
    let joined = sum_by-append (λ (m : ℕ). m) before (get_or weights n 0 ∷ []) in
    let one = sum_by-cons (λ (m : ℕ). m) (get_or weights n 0) [] in
    ap sum (items_more weights marks n passes) ∙ omega (arith, joined, one)

pub total_same : (weights : List ℕ) (marks : List Bool) (n : ℕ) → get_or marks n false ≡ false
    → total_weight weights (passing (is_marked marks) (n + 1)) ≡ total_weight weights (passing (is_marked marks) n)
total_same weights marks n fails = ap sum (items_same weights marks n fails)
