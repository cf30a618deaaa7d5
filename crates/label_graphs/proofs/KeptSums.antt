-- What the edges of a kept state lead to.
use Rattle.std.proofs.Common.{◌≡◌, ℕ, ◌+◌, ◌<◌, List, [], ◌∷◌, length, get_or, map, Bool, true, false, cond, refl, ap, sym, ◌∙◌, subst, arith}
use Rattle.std.specs.Prelude.{Contains, filter, slice_index, slice_index_or}
use Rattle.std.specs.List.{sum}
use Rattle.std.proofs.lemmas.List.{get_or-map}
use Rattle.std.proofs.lemmas.List.Elements.{Contains-append_right}
use Rattle.label_graphs.specs.Graph.{EdgeData, HasEdge, IsGraph}
use Rattle.label_graphs.specs.Kept.{marked_states, IsKept}
use Rattle.label_graphs.specs.Vector.{target_sum}
use Rattle.label_graphs.specs.inside.Numbers.{passing, rank, is_marked, renumbered}
use Rattle.label_graphs.proofs.EdgeOrder.{ascending_same}
use Rattle.label_graphs.proofs.Ranks.{rank_below, state_at, stands}
use Rattle.label_graphs.proofs.Renumbered.{new_edge, renumbered_from, renumbered_has, renumbered_ascends, target_of}
use Rattle.label_graphs.proofs.Sums.{sum-cons}

-- a kept state's row is its old one under the new numbers
pub kept_row : (rows kept : List (List EdgeData)) (marks : List Bool) (state : ℕ) → IsGraph rows → IsGraph kept
    → length marks ≡ length rows → IsKept rows marks kept → state < length kept
    → get_or kept state [] ≡ renumbered (is_marked marks) (get_or rows (slice_index (marked_states marks) state) [])
kept_row rows kept marks state graph part marked known inside =
    let test = is_marked marks in
    let n = length marks in
    let size : length kept ≡ rank test n = known.size in
    let here = stands test n state (omega (arith, inside, size)) in
    let s = slice_index (marked_states marks) state in
    let s_in : s < length rows = (let below = here.below in let same = here.is in omega (arith, below, same, marked)) in
    ascending_same (get_or kept state []) (renumbered test (get_or rows s [])) (part.order state [] inside)
    (renumbered_ascends test (get_or rows s []) (graph.order s [] s_in))
    (λ g found.
    let to_in : g.to < length kept = target_of kept state g.block g.to part inside found in
    let there = stands test n g.to (omega (arith, to_in, size)) in
    let t = slice_index (marked_states marks) g.to in
    let old : HasEdge rows s g.block t = (known.edges state g.block g.to inside to_in).0 found in
    let passes : test t ≡ true = subst (λ y. test y ≡ true) (sym there.is) there.passes in
    let number : rank test t ≡ g.to = ap (rank test) there.is ∙ there.number in
    subst (λ y. Contains (renumbered test (get_or rows s [])) (record { block = g.block; to = y })) number
    (renumbered_has test (get_or rows s []) (record { block = g.block; to = t }) old passes))
    (λ g found.
    let old = renumbered_from test (get_or rows s []) g found in
    let same_block : old.0.block ≡ g.block = ap (λ (e : EdgeData). e.block) old.3 in
    let same_to : rank test old.0.to ≡ g.to = ap (λ (e : EdgeData). e.to) old.3 in
    let below : old.0.to < n = (let low = target_of rows s old.0.block old.0.to graph s_in old.1 in omega (arith, low, marked)) in
    let less : rank test old.0.to < rank test n = rank_below test old.0.to n below old.2 in
    let to_in : g.to < length kept = omega (arith, less, same_to, size) in
    let stood : slice_index (marked_states marks) g.to ≡ old.0.to =
    ap (λ m. get_or (passing test n) m 0) (sym same_to) ∙ state_at test n old.0.to below old.2 in
    (known.edges state g.block g.to inside to_in).1
    (subst (λ y. HasEdge rows s g.block y) (sym stood) (subst (λ b. HasEdge rows s b old.0.to) same_block old.1)))

abbrev weight_of : List ℕ → EdgeData → ℕ
weight_of x e = get_or x e.to 0

sum_by_test : (test : ℕ → Bool) (x : List ℕ) (states : List ℕ) (e : EdgeData) (row : List EdgeData) (b : Bool) → test e.to ≡ b
    → (test e.to ≡ true → get_or (map (λ s. get_or x s 0) states) (rank test e.to) 0 ≡ get_or x e.to 0)
    → (test e.to ≡ false → get_or x e.to 0 ≡ 0)
    → sum (map (weight_of (map (λ s. get_or x s 0) states)) (renumbered test row)) ≡ sum (map (weight_of x) row)
    → sum (map (weight_of (map (λ s. get_or x s 0) states))
    (map (new_edge test) (cond b (e ∷ filter (λ e. test e.to) row) (filter (λ e. test e.to) row))))
    ≡ sum (map (weight_of x) (e ∷ row))
sum_by_test test x states e row true passes found none rest =
    sum-cons (get_or (map (λ s. get_or x s 0) states) (rank test e.to) 0) (map (weight_of (map (λ s. get_or x s 0) states)) (renumbered test row))
    ∙ ap (λ n. n + sum (map (weight_of (map (λ s. get_or x s 0) states)) (renumbered test row))) (found passes)
    ∙ ap (λ n. get_or x e.to 0 + n) rest
    ∙ sym (sum-cons (get_or x e.to 0) (map (weight_of x) row))
sum_by_test test x states e row false fails found none rest =
    let zero_there : get_or x e.to 0 ≡ 0 = none fails in
    let more : sum (map (weight_of x) (e ∷ row)) ≡ get_or x e.to 0 + sum (map (weight_of x) row) = sum-cons (get_or x e.to 0) (map (weight_of x) row) in
    omega (arith, rest, zero_there, more)

sum_kept : (test : ℕ → Bool) (x : List ℕ) (states : List ℕ) (row : List EdgeData)
    → ((e : EdgeData) → Contains row e → test e.to ≡ true → get_or (map (λ s. get_or x s 0) states) (rank test e.to) 0 ≡ get_or x e.to 0)
    → ((e : EdgeData) → Contains row e → test e.to ≡ false → get_or x e.to 0 ≡ 0)
    → sum (map (weight_of (map (λ s. get_or x s 0) states)) (renumbered test row)) ≡ sum (map (weight_of x) row)
sum_kept test x states [] found none = refl
sum_kept test x states (e ∷ row) found none =
    sum_by_test test x states e row (test e.to) refl (found e (0, omega arith, refl)) (none e (0, omega arith, refl))
    (sum_kept test x states row (λ f there. found f (Contains-append_right (e ∷ []) row f there)) (λ f there. none f (Contains-append_right (e ∷ []) row f there)))

pub kept_sums : (rows kept : List (List EdgeData)) (marks : List Bool) (x : List ℕ) (state : ℕ) → IsGraph rows → IsGraph kept
    → length marks ≡ length rows → IsKept rows marks kept → state < length kept
    → ((block to : ℕ) → HasEdge rows (slice_index (marked_states marks) state) block to → slice_index_or marks to false ≡ false → slice_index x to ≡ 0)
    → target_sum kept (map (λ s. slice_index x s) (marked_states marks)) state ≡ target_sum rows x (slice_index (marked_states marks) state)
kept_sums rows kept marks x state graph part marked known inside none =
    let test = is_marked marks in
    let n = length marks in
    let states = marked_states marks in
    let s = slice_index states state in
    let here = stands test n state (let size = known.size in omega (arith, inside, size)) in
    let s_in : s < length rows = (let below = here.below in let same = here.is in omega (arith, below, same, marked)) in
    ap (λ (row : List EdgeData). sum (map (weight_of (map (λ s. get_or x s 0) states)) row)) (kept_row rows kept marks state graph part marked known inside)
    ∙ sum_kept test x states (get_or rows s [])
    (λ e found passes.
    let below : e.to < n = (let low = target_of rows s e.block e.to graph s_in found in omega (arith, low, marked)) in
    let less : rank test e.to < rank test n = rank_below test e.to n below passes in
    get_or-map (λ s. get_or x s 0) states (rank test e.to) 0 0 less ∙ ap (λ y. get_or x y 0) (state_at test n e.to below passes))
    (λ e found fails. none e.block e.to found fails)
