-- A search goes on by one state, by the edges of a state, and ends.
use Rattle.std.proofs.Common.{◌≡◌, ℕ, zero, suc, ◌+◌, ◌<◌, ◌≤◌, List, [], ◌∷◌, ◌++◌, length, length-append, get_or, set, take, drop, map, Bool, true, false, cond, inl, inr, refl, ap, sym, ◌∙◌, subst, arith}
use Rattle.std.specs.Prelude.{Contains}
use Rattle.std.specs.List.{count_by}
use Rattle.std.proofs.lemmas.Bool.{cases_lt, cases_eq}
use Rattle.std.proofs.lemmas.List.{get_or_append_left, get_or_push, get_or-set_same, get_or-set_other, get_or-map, length-set, length-map, map-append, take_more, take-append-le, take_all}
use Rattle.std.proofs.lemmas.List.Sums.{sum_by-set}
use Rattle.symbol_base.specs.Walk.{IsWalk}
use Rattle.symbol_base.proofs.Walks.{walk-more}
use Rattle.label_graphs.specs.declared.graph.Edge.{Edge}
use Rattle.label_graphs.specs.Views.{edge_data}
use Rattle.label_graphs.specs.Graph.{EdgeData, HasEdge, IsGraph}
use Rattle.label_graphs.specs.Reach.{IsReached, MarkReached}
use Rattle.label_graphs.specs.inside.Found.{Marked, HasFound, AreFollowed, IsTaken, AreTaken, targets}

one_more : (marks : List Bool) (state : ℕ) → state < length marks → get_or marks state false ≡ false
    → count_by (λ mark. mark) (set marks state true) ≡ count_by (λ mark. mark) marks + 1
one_more marks state inside fresh =
    let one : Bool → ℕ = λ mark. cond mark 1 0 in
    let changed = sum_by-set one marks state true false inside in
    let gone : ◌≡◌ {A = ℕ} (one (get_or marks state false)) 0 = ap one fresh in
    omega (arith, changed, gone)

taken_size : (state : ℕ) (marks marks' : List Bool) (found found' : List ℕ) → IsTaken state marks found marks' found' → length marks' ≡ length marks
taken_size state marks marks' found found' (inl old) = ap (λ (ms : List Bool). length ms) old.2
taken_size state marks marks' found found' (inr new) = ap (λ (ms : List Bool). length ms) new.2 ∙ length-set marks state true

taken_here : (state : ℕ) (marks marks' : List Bool) (found found' : List ℕ) → IsTaken state marks found marks' found' → state < length marks
    → Marked marks' state
taken_here state marks marks' found found' (inl old) inside = subst (λ ms. Marked ms state) (sym old.2) old.0
taken_here state marks marks' found found' (inr new) inside =
    subst (λ ms. Marked ms state) (sym new.2) (get_or-set_same marks state true false inside)

set_stays : (marks : List Bool) (state other : ℕ) → state < length marks → Marked marks other → Marked (set marks state true) other
set_stays marks state other inside marked = elim (cases_eq other state) [
  | inl same ↦ subst (λ s. Marked (set marks state true) s) (sym same) (get_or-set_same marks state true false inside)
  | inr differs ↦ get_or-set_other marks state other true false differs ∙ marked
]

taken_stays : (state : ℕ) (marks marks' : List Bool) (found found' : List ℕ) → IsTaken state marks found marks' found' → state < length marks
    → (other : ℕ) → Marked marks other → Marked marks' other
taken_stays state marks marks' found found' (inl old) inside other marked = subst (λ ms. Marked ms other) (sym old.2) marked
taken_stays state marks marks' found found' (inr new) inside other marked =
    subst (λ ms. Marked ms other) (sym new.2) (set_stays marks state other inside marked)

taken_front : (state : ℕ) (marks marks' : List Bool) (found found' : List ℕ) → IsTaken state marks found marks' found' → (i : ℕ) → i < length found
    → (i < length found') × (get_or found' i 0 ≡ get_or found i 0)
taken_front state marks marks' found found' (inl old) i i_in =
    (subst (λ (l : List ℕ). i < length l) (sym old.1) i_in, ap (λ (l : List ℕ). get_or l i 0) old.1)
taken_front state marks marks' found found' (inr new) i i_in = (
  (let size = ap (λ (l : List ℕ). length l) new.1 ∙ length-append found (state ∷ []) in omega (arith, size, i_in)),
  ap (λ (l : List ℕ). get_or l i 0) new.1 ∙ get_or_append_left found (state ∷ []) 0 i i_in,
)

-- a new state is found
found_more : (rows : List (List EdgeData)) (from state : ℕ) (marks : List Bool) (found : List ℕ) → HasFound rows from marks found
    → state < length rows → IsReached rows from state → get_or marks state false ≡ false
    → HasFound rows from (set marks state true) (found ++ state ∷ [])
found_more rows from state marks found known inside reached fresh =
    let more = found ++ state ∷ [] in
    let longer : length more ≡ length found + 1 = length-append found (state ∷ []) in
    let in_marks : state < length marks = (let size = known.size in omega (arith, size, inside)) in
    let here : get_or more (length found) 0 ≡ state = get_or_push found state 0 (length found) refl in
    let each : (P : ℕ → Type 0) → ((i : ℕ) → i < length found → P (get_or found i 0)) → P state → (i : ℕ) → i < length more → P (get_or more i 0) =
    λ P old new i i_in. elim (cases_lt i (length found)) [
      | inl low ↦ subst P (sym (get_or_append_left found (state ∷ []) 0 i low)) (old i low)
      | inr high ↦ (let last : length found ≡ i = omega (arith, high, i_in, longer) in subst P (sym (get_or_push found state 0 i last)) new)
    ] in
    record {
      size = length-set marks state true ∙ known.size;
      count = (let count = known.count in let one = one_more marks state in_marks fresh in omega (arith, count, one, longer));
      reached = λ other marked. elim (cases_eq other state) [
        | inl same ↦ subst (λ s. IsReached rows from s) (sym same) reached
        | inr differs ↦ known.reached other (sym (get_or-set_other marks state other true false differs) ∙ marked)
      ];
      inside = each (λ s. s < length rows) known.inside inside;
      marked = each (λ s. Marked (set marks state true) s) (λ i i_in. set_stays marks state (get_or found i 0) in_marks (known.marked i i_in))
          (get_or-set_same marks state true false in_marks);
      listed = λ other marked. elim (cases_eq other state) [
        | inl same ↦ (length found, omega (arith, longer), here ∙ sym same)
        | inr differs ↦ (
            let old = known.listed other (sym (get_or-set_other marks state other true false differs) ∙ marked) in
            (old.0, omega (arith, old.1, longer), get_or_append_left found (state ∷ []) 0 old.0 old.1 ∙ old.2))
      ];
    }

pub found_taken : (rows : List (List EdgeData)) (from state : ℕ) (marks marks' : List Bool) (found found' : List ℕ) → HasFound rows from marks found
    → state < length rows → IsReached rows from state → IsTaken state marks found marks' found' → HasFound rows from marks' found'
found_taken rows from state marks marks' found found' known inside reached (inl old) =
    subst (λ ms. HasFound rows from ms found') (sym old.2) (subst (λ (l : List ℕ). HasFound rows from marks l) (sym old.1) known)
found_taken rows from state marks marks' found found' known inside reached (inr new) =
    subst (λ ms. HasFound rows from ms found') (sym new.2)
    (subst (λ (l : List ℕ). HasFound rows from (set marks state true) l) (sym new.1)
    (found_more rows from state marks found known inside reached new.0))

-- one more state is taken
pub taken_more : (states : List ℕ) (state : ℕ) (marks marks' marks'' : List Bool) (found found' found'' : List ℕ)
    → AreTaken states marks found marks' found' → state < length marks' → IsTaken state marks' found' marks'' found''
    → AreTaken (states ++ state ∷ []) marks found marks'' found''
taken_more states state marks marks' marks'' found found' found'' taken inside one =
    let more = states ++ state ∷ [] in
    let longer : length more ≡ length states + 1 = length-append states (state ∷ []) in
    record {
      size = taken_size state marks' marks'' found' found'' one ∙ taken.size;
      front = λ i i_in.
          let old = taken.front i i_in in
          let new = taken_front state marks' marks'' found' found'' one i old.0 in (new.0, new.1 ∙ old.1);
      stays = λ other marked. taken_stays state marks' marks'' found' found'' one inside other (taken.stays other marked);
      marked = λ k k_in. elim (cases_lt k (length states)) [
        | inl low ↦ subst (λ s. Marked marks'' s) (sym (get_or_append_left states (state ∷ []) 0 k low))
            (taken_stays state marks' marks'' found' found'' one inside (get_or states k 0) (taken.marked k low))
        | inr high ↦ (
            let last : length states ≡ k = omega (arith, high, k_in, longer) in
            subst (λ s. Marked marks'' s) (sym (get_or_push states state 0 k last)) (taken_here state marks' marks'' found' found'' one inside))
      ];
      sound = λ rows from known reached.
          let last = reached (length states) (omega (arith, longer)) in
          let here : get_or more (length states) 0 ≡ state = get_or_push states state 0 (length states) refl in
          found_taken rows from state marks' marks'' found' found''
          (taken.sound rows from known
          (λ k k_in.
          let old = reached k (omega (arith, k_in, longer)) in
          subst (λ s. (s < length rows) × IsReached rows from s) (get_or_append_left states (state ∷ []) 0 k k_in) old))
          (subst (λ s. s < length rows) here last.0) (subst (λ s. IsReached rows from s) here last.1) one;
    }

no_edge : EdgeData
no_edge = record { block = 0; to = 0 }

target_at : (row : List EdgeData) (k : ℕ) → k < length row → get_or (targets row) k 0 ≡ (get_or row k no_edge).to
target_at row k inside = get_or-map (λ (e : EdgeData). e.to) row k no_edge 0 inside

-- the edges of the next found state are followed
pub followed_more : (rows : List (List EdgeData)) (from at : ℕ) (row : List EdgeData) (marks marks' : List Bool) (found found' : List ℕ)
    → IsGraph rows → HasFound rows from marks found → AreFollowed rows marks found at → at < length found → row ≡ get_or rows (get_or found at 0) []
    → AreTaken (targets row) marks found marks' found' → HasFound rows from marks' found' × AreFollowed rows marks' found' (at + 1)
followed_more rows from at row marks marks' found found' graph known followed at_in row_is taken =
    let state = get_or found at 0 in
    let state_in : state < length rows = known.inside at at_in in
    let way = known.reached state (known.marked at at_in) in
    let size : length (targets row) ≡ length row = length-map row (λ (e : EdgeData). e.to) in
    let led : (k : ℕ) → k < length (targets row) → (get_or (targets row) k 0 < length rows) × IsReached rows from (get_or (targets row) k 0) =
    λ k k_in.
    let k_row : k < length row = omega (arith, k_in, size) in
    let k_edges : k < length (get_or rows state []) = subst (λ (es : List EdgeData). k < length es) row_is k_row in
    let e : EdgeData = get_or row k no_edge in
    let e_is : get_or (get_or rows state []) k no_edge ≡ e = ap (λ (es : List EdgeData). get_or es k no_edge) (sym row_is) in
    let below : e.to < length rows = subst (λ (x : EdgeData). x.to < length rows) e_is (graph.targets state [] state_in k no_edge k_edges) in
    let there : HasEdge rows state e.block e.to = subst (λ (es : List EdgeData). Contains es e) row_is (k, k_row, get_or_any row k k_row) in
    subst (λ s. (s < length rows) × IsReached rows from s) (sym (target_at row k k_row))
    (below, (way.0 ++ e.block ∷ [], walk-more (HasEdge rows) way.0 e.block from state e.to way.1 there)) in (
      taken.sound rows from known led,
      (λ i block to i_in edge. elim (cases_lt i at) [
        | inl low ↦ (
            let same = (taken.front i (omega (arith, low, at_in))).1 in
            taken.stays to (followed i block to low (subst (λ s. HasEdge rows s block to) same edge)))
        | inr high ↦ (
            let last : i ≡ at = omega (arith, high, i_in) in
            let same : get_or found' i 0 ≡ state = ap (λ n. get_or found' n 0) last ∙ (taken.front at at_in).1 in
            let there : HasEdge rows state block to = subst (λ s. HasEdge rows s block to) same edge in
            let here : Contains row (record { block = block; to = to }) = subst (λ (es : List EdgeData). Contains es (record { block = block; to = to })) (sym row_is) there in
            let target : get_or (targets row) here.0 0 ≡ to =
            get_or-map (λ (e : EdgeData). e.to) row here.0 (record { block = block; to = to }) 0 here.1 ∙ ap (λ (e : EdgeData). e.to) here.2 in
            subst (λ s. Marked marks' s) target (taken.marked here.0 (omega (arith, here.1, size))))
      ]),
    )
  where
    get_or_any : (xs : List EdgeData) (k : ℕ) → k < length xs → get_or xs k (get_or xs k no_edge) ≡ get_or xs k no_edge
    get_or_any [] k k_in = absurd (omega (arith, k_in))
    get_or_any (x ∷ xs) zero k_in = refl
    get_or_any (x ∷ xs) (suc k) k_in = get_or_any xs k (omega (arith, k_in))

-- a walk from a marked state ends in one, where all is followed
walk_marked : (rows : List (List EdgeData)) (from : ℕ) (marks : List Bool) (found : List ℕ) → HasFound rows from marks found
    → AreFollowed rows marks found (length found) → (blocks : List ℕ) (here there : ℕ) → Marked marks here → IsWalk (HasEdge rows) here blocks there
    → Marked marks there
walk_marked rows from marks found known followed [] here there marked walk = subst (λ s. Marked marks s) walk marked
walk_marked rows from marks found known followed (block ∷ blocks) here there marked walk =
    let place = known.listed here marked in
    let next = followed place.0 block walk.0 place.1 (subst (λ s. HasEdge rows s block walk.0) (sym place.2) walk.1) in
    walk_marked rows from marks found known followed blocks walk.0 there next walk.2

-- the marked states are those reached
pub found_all : (rows : List (List EdgeData)) (from at : ℕ) (marks : List Bool) (found : List ℕ) → HasFound rows from marks found
    → AreFollowed rows marks found at → length found ≤ at → Marked marks from → MarkReached rows from marks
found_all rows from at marks found known followed end start =
    let all : AreFollowed rows marks found (length found) = λ i block to i_in edge. followed i block to (omega (arith, i_in, end)) edge in
    record {
      size = known.size;
      reached = λ to to_in. (
        (λ marked. known.reached to marked),
        (λ way. walk_marked rows from marks found known all way.0 from to start way.1),
      );
    }

-- one more edge of a row is taken
pub edge_taken : {N : Type 0} (number : N → ℕ) (row : List (Edge N)) (i : ℕ) (e : Edge N) (marks marks' marks'' : List Bool) (found found' found'' : List ℕ)
    → i < length row → e ≡ get_or row i e → number e.to < length marks' → IsTaken (number e.to) marks' found' marks'' found''
    → AreTaken (targets (map (edge_data number) (take i row))) marks found marks' found'
    → AreTaken (targets (map (edge_data number) (take (i + 1) row))) marks found marks'' found''
edge_taken {N = N} number row i e marks marks' marks'' found found' found'' inside at fits one known =
    let front = map (edge_data number) (take i row) in
    let next : targets (map (edge_data number) (take (i + 1) row)) ≡ targets front ++ number e.to ∷ [] =
    ap (λ (es : List (Edge N)). targets (map (edge_data number) es)) (take_more row i e inside ∙ ap (λ (x : Edge N). take i row ++ x ∷ []) (sym at))
    ∙ ap targets (map-append (edge_data number) (take i row) (e ∷ [])) ∙ map-append (λ (x : EdgeData). x.to) front (edge_data number e ∷ []) in
    subst (λ (states : List ℕ). AreTaken states marks found marks'' found'') (sym next)
    (taken_more (targets front) (number e.to) marks marks' marks'' found found' found'' known fits one)

-- the number of an item that is read
pub number_read : {N : Type 0} (number : N → ℕ) (items : List N) (i : ℕ) (x : N) → i < length items → x ≡ get_or items i x → number x ≡ get_or (map number items) i 0
number_read number items i x inside at = ap number at ∙ sym (get_or-map number items i x 0 inside)

-- what is written through a slice of a whole list is the list
pub written_back : (n : ℕ) (new old : List Bool) → length new ≡ n → take n (new ++ drop (length new) old) ≡ new
written_back n new old is = take-append-le n new (drop (length new) old) (omega arith) ∙ take_all n new (omega arith)
