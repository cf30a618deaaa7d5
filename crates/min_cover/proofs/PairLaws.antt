-- A walk of pairs is two walks with one word that don't meet.
use Rattle.std.proofs.Common.{◌≡◌, ◌≢◌, ℕ, zero, suc, ◌+◌, ◌*◌, ◌/◌, ◌%◌, ◌<◌, List, [], ◌∷◌, ◌++◌, length, get_or, Option, Some, None, cond, inl, inr, refl, ap, sym, ◌∙◌, subst, arith, eq-eqb, ne_eqb}
use Rattle.std.specs.Prelude.{All, Contains, nat_eq, unwrap_or}
use Rattle.std.proofs.lemmas.Nat.{div-mul-add, mod-mul-add, mul-add-lt}
use Rattle.std.proofs.Math.Nat.{div-lt_iff_lt-mul, mod-lt}
use Rattle.std.proofs.lemmas.List.{get_or_past}
use Rattle.std.proofs.lemmas.Option.{none-some}
use Rattle.std.proofs.lemmas.Bool.{cases_lt}
use Rattle.std.proofs.lemmas.Bool.Decides.{eqb_tells}
use Rattle.symbol_base.specs.Walk.{IsWalk}
use Rattle.label_graphs.specs.Graph.{EdgeData, HasEdge, IsGraph}
use Rattle.label_graphs.specs.Cover.{CoverData}
use Rattle.least_walks.specs.declared.Arc.{Arc}
use Rattle.least_walks.specs.Graph.{AreArcsBelow}
use Rattle.least_walks.proofs.ArcLists.{arcs_push, arcs_skip}
use Rattle.min_cover.specs.inside.Pairs.{target_of, pair_of, pair_count, pair_step, pair_graph, Leads}
use Rattle.min_cover.proofs.CoverMemory.{one_end}

abbrev pub IsSingle : List (List EdgeData) → Type 0
IsSingle rows = (u symbol v w : ℕ) → HasEdge rows u symbol v → HasEdge rows u symbol w → v ≡ w

abbrev edge_to : ℕ → ℕ → EdgeData
edge_to symbol to = record { block = symbol; to = to }

value_of : (x y : ℕ) → ◌≡◌ {A = Option ℕ} (Some x) (Some y) → x ≡ y
value_of x y same = ap (λ o. unwrap_or o 0) same

-- the target that is found is that of an edge
target_edge : (row : List EdgeData) (symbol x : ℕ) → target_of row symbol ≡ Some x → Contains row (edge_to symbol x)
target_edge [] symbol x is = absurd (none-some x is)
target_edge (e ∷ row) symbol x is = elim (eqb_tells e.block symbol) [
  | inl same ↦ (
      let to : e.to ≡ x = value_of e.to x (subst (λ b. cond b (Some e.to) (target_of row symbol) ≡ Some x) same.0 is) in
      (0, omega arith, ap (λ s. edge_to s e.to) same.1 ∙ ap (λ t. edge_to symbol t) to))
  | inr other ↦ (
      let rest = target_edge row symbol x (subst (λ b. cond b (Some e.to) (target_of row symbol) ≡ Some x) other.0 is) in
      (suc rest.0, omega (arith, rest.1), rest.2))
]

-- where there is an edge with the symbol, a target is found
target_some : (row : List EdgeData) (symbol x k : ℕ) → k < length row → get_or row k (edge_to symbol x) ≡ edge_to symbol x
    → (y : ℕ) × (target_of row symbol ≡ Some y)
target_some [] symbol x k k_in is = absurd (omega (arith, k_in))
target_some (e ∷ row) symbol x zero k_in is =
    let same : e.block ≡ symbol = ap (λ (f : EdgeData). f.block) is in
    (e.to, ap (λ b. cond b (Some e.to) (target_of row symbol)) (eq-eqb e.block symbol same))
target_some (e ∷ row) symbol x (suc k) k_in is = elim (eqb_tells e.block symbol) [
  | inl same ↦ (e.to, ap (λ b. cond b (Some e.to) (target_of row symbol)) same.0)
  | inr other ↦ (
      let rest = target_some row symbol x k (omega (arith, k_in)) is in
      (rest.0, ap (λ b. cond b (Some e.to) (target_of row symbol)) other.0 ∙ rest.1))
]

edge_target : (rows : List (List EdgeData)) → IsSingle rows → (u symbol x : ℕ) → HasEdge rows u symbol x → target_of (get_or rows u []) symbol ≡ Some x
edge_target rows single u symbol x edge =
    let found = target_some (get_or rows u []) symbol x edge.0 edge.1 edge.2 in
    let same : found.0 ≡ x = single u symbol found.0 x (target_edge (get_or rows u []) symbol found.0 found.1) edge in
    found.1 ∙ ap (λ y. Some y) same

pub edge_inside : (rows : List (List EdgeData)) → IsGraph rows → (u symbol x : ℕ) → u < length rows → HasEdge rows u symbol x → x < length rows
edge_inside rows graph u symbol x u_in edge =
    subst (λ (e : EdgeData). e.to < length rows) edge.2 (graph.targets u [] u_in edge.0 (edge_to symbol x) edge.1)

pair_parts : (n : ℕ) (a b : Option ℕ) (q : ℕ) → pair_of n a b ≡ Some q
    → (x : ℕ) × (y : ℕ) × (a ≡ Some x) × (b ≡ Some y) × (x ≢ y) × (q ≡ x * n + y)
pair_parts n None b q is = absurd (none-some q is)
pair_parts n (Some x) None q is = absurd (none-some q is)
pair_parts n (Some x) (Some y) q is = elim (eqb_tells x y) [
  | inl same ↦ absurd (none-some q (subst (λ b. cond b None (Some (x * n + y)) ≡ Some q) same.0 is))
  | inr other ↦ (x, y, refl, refl, other.1, sym (value_of (x * n + y) q (subst (λ b. cond b None (Some (x * n + y)) ≡ Some q) other.0 is)))
]

-- both states of a pair make its step, and come to different states
pub step_parts : (rows : List (List EdgeData)) (p symbol q : ℕ) → Leads (pair_step rows) p symbol q
    → (p / length rows ≢ p % length rows)
    × ((x : ℕ) × (y : ℕ) × HasEdge rows (p / length rows) symbol x × HasEdge rows (p % length rows) symbol y × (x ≢ y) × (q ≡ x * length rows + y))
step_parts rows p symbol q step =
    let n = length rows in
    let first = get_or rows (p / n) [] in
    let second = get_or rows (p % n) [] in
    let both : Option ℕ = pair_of n (target_of first symbol) (target_of second symbol) in
    elim (eqb_tells (p / n) (p % n)) [
      | inl same ↦ absurd (none-some q (subst (λ b. cond b None both ≡ Some q) same.0 step))
      | inr other ↦ (
          let parts = pair_parts n (target_of first symbol) (target_of second symbol) q (subst (λ b. cond b None both ≡ Some q) other.0 step) in
          (other.1, (parts.0, parts.1, target_edge first symbol parts.0 parts.2, target_edge second symbol parts.1 parts.3, parts.4, parts.5)))
    ]

-- two edges from different states to different states are a step of their pair
pub step_made : (rows : List (List EdgeData)) → IsSingle rows → (u v symbol x y : ℕ) → v < length rows → u ≢ v → x ≢ y
    → HasEdge rows u symbol x → HasEdge rows v symbol y → Leads (pair_step rows) (u * length rows + v) symbol (x * length rows + y)
step_made rows single u v symbol x y v_in apart apart' first second =
    let n = length rows in
    let quotient : (u * n + v) / n ≡ u = div-mul-add u n v v_in in
    let rest : (u * n + v) % n ≡ v = mod-mul-add u n v v_in in
    let both = λ (a b : ℕ). pair_of n (target_of (get_or rows a []) symbol) (target_of (get_or rows b []) symbol) in
    let whole = λ (a b : ℕ). cond (nat_eq a b) None (both a b) in
    ap (λ a. whole a ((u * n + v) % n)) quotient ∙ ap (λ b. whole u b) rest ∙ ap (λ b. cond b None (both u v)) (ne_eqb u v apart)
    ∙ ap (λ o. pair_of n o (target_of (get_or rows v []) symbol)) (edge_target rows single u symbol x first)
    ∙ ap (λ o. pair_of n (Some x) o) (edge_target rows single v symbol y second)
    ∙ ap (λ b. cond b None (Some (x * n + y))) (ne_eqb x y apart')

some_states : (n p : ℕ) → p < n * n → 0 < n
some_states zero p p_in = absurd (omega (arith, p_in))
some_states (suc n) p p_in = omega arith

-- the states of a pair are states
pub states_inside : (n p : ℕ) → p < n * n → (p / n < n) × (p % n < n)
states_inside n p p_in = let some = some_states n p p_in in ((div-lt_iff_lt-mul some).1 p_in, mod-lt p some)

-- a step leads to a pair
pub step_inside : (rows : List (List EdgeData)) → IsGraph rows → (p symbol q : ℕ) → p < pair_count rows → Leads (pair_step rows) p symbol q
    → q < pair_count rows
step_inside rows graph p symbol q p_in step =
    let n = length rows in
    let parts = (step_parts rows p symbol q step).1 in
    let states = states_inside n p p_in in
    let x_in = edge_inside rows graph (p / n) symbol parts.0 states.0 parts.2 in
    let y_in = edge_inside rows graph (p % n) symbol parts.1 states.1 parts.3 in
    subst (λ q. q < n * n) (sym parts.5) (mul-add-lt parts.0 n parts.1 n x_in y_in)

-- a walk of pairs is a walk of each of the two states, and they end apart
pub walks_of_pairs : (rows : List (List EdgeData)) → IsGraph rows → (word : List ℕ) (p q : ℕ) → p < pair_count rows → p / length rows ≢ p % length rows
    → IsWalk (Leads (pair_step rows)) p word q
    → IsWalk (HasEdge rows) (p / length rows) word (q / length rows) × IsWalk (HasEdge rows) (p % length rows) word (q % length rows)
    × (q / length rows ≢ q % length rows) × (q < pair_count rows)
walks_of_pairs rows graph [] p q p_in apart walk =
    let n = length rows in
    (ap (λ r. r / n) walk, ap (λ r. r % n) walk, subst (λ r. r / n ≢ r % n) walk apart, subst (λ r. r < n * n) walk p_in)
walks_of_pairs rows graph (symbol ∷ word) p q p_in apart walk =
    let n = length rows in
    let parts = (step_parts rows p symbol walk.0 walk.1).1 in
    let states = states_inside n p p_in in
    let y_in = edge_inside rows graph (p % n) symbol parts.1 states.1 parts.3 in
    let first : walk.0 / n ≡ parts.0 = ap (λ r. r / n) parts.5 ∙ div-mul-add parts.0 n parts.1 y_in in
    let second : walk.0 % n ≡ parts.1 = ap (λ r. r % n) parts.5 ∙ mod-mul-add parts.0 n parts.1 y_in in
    let rest = walks_of_pairs rows graph word walk.0 q (step_inside rows graph p symbol walk.0 p_in walk.1)
    (λ same. parts.4 (sym first ∙ same ∙ second)) walk.2 in (
      (parts.0, parts.2, subst (λ t. IsWalk (HasEdge rows) t word (q / n)) first rest.0),
      (parts.1, parts.3, subst (λ t. IsWalk (HasEdge rows) t word (q % n)) second rest.1),
      rest.2,
      rest.3,
    )

-- two walks with one word that end apart are a walk of pairs
pub pairs_of_walks : (rows : List (List EdgeData)) → IsGraph rows → IsSingle rows → (word : List ℕ) (u v x y : ℕ) → u < length rows → v < length rows → x ≢ y
    → IsWalk (HasEdge rows) u word x → IsWalk (HasEdge rows) v word y
    → IsWalk (Leads (pair_step rows)) (u * length rows + v) word (x * length rows + y)
pairs_of_walks rows graph single [] u v x y u_in v_in apart first second =
    ap (λ a. a * length rows + v) first ∙ ap (λ b. x * length rows + b) second
pairs_of_walks rows graph single (symbol ∷ word) u v x y u_in v_in apart first second =
    let u' = first.0 in
    let v' = second.0 in
    let apart' : u' ≢ v' = λ same. apart (one_end (HasEdge rows) single word u' x y first.2 (subst (λ t. IsWalk (HasEdge rows) t word y) (sym same) second.2)) in
    let before : u ≢ v = λ same. apart' (single u symbol u' v' first.1 (subst (λ t. HasEdge rows t symbol v') (sym same) second.1)) in (
      u' * length rows + v',
      step_made rows single u v symbol u' v' v_in before apart' first.1 second.1,
      pairs_of_walks rows graph single word u' v' x y (edge_inside rows graph u symbol u' u_in first.1) (edge_inside rows graph v symbol v' v_in second.1) apart first.2 second.2,
    )

-- the pair of two targets is a pair
pub targets_pair : (rows : List (List EdgeData)) (n u v symbol x y : ℕ) (first second : List EdgeData) → IsGraph rows → n ≡ length rows
    → u < length rows → v < length rows → first ≡ get_or rows u [] → second ≡ get_or rows v [] → target_of first symbol ≡ Some x → target_of second symbol ≡ Some y
    → x * n + y < pair_count rows
targets_pair rows n u v symbol x y first second graph size u_in v_in first_is second_is x_is y_is =
    let there : HasEdge rows u symbol x = target_edge (get_or rows u []) symbol x (ap (λ row. target_of row symbol) (sym first_is) ∙ x_is) in
    let there' : HasEdge rows v symbol y = target_edge (get_or rows v []) symbol y (ap (λ row. target_of row symbol) (sym second_is) ∙ y_is) in
    let m = length rows in
    subst (λ n. x * n + y < m * m) (sym size)
    (mul-add-lt x m y m (edge_inside rows graph u symbol x u_in there) (edge_inside rows graph v symbol y v_in there'))

-- the symbol of a step is one of the alphabet's
pub step_symbol : (rows : List (List EdgeData)) (alphabet : ℕ) → All (All (λ e. e.block < alphabet)) rows → (p symbol q : ℕ)
    → Leads (pair_step rows) p symbol q → symbol < alphabet
step_symbol rows alphabet symbols p symbol q step =
    let edge = (step_parts rows p symbol q step).1.2 in
    let u = p / length rows in
    elim (cases_lt u (length rows)) [
      | inl inside ↦ subst (λ (e : EdgeData). e.block < alphabet) edge.2 (symbols u [] inside edge.0 (edge_to symbol (step_parts rows p symbol q step).1.0) edge.1)
      | inr outside ↦ (
          let none : get_or rows u [] ≡ [] = get_or_past rows u [] outside in
          absurd (omega (arith, edge.1, ap (λ (row : List EdgeData). length row) none)))
    ]

-- no arc where the symbol leads nowhere
pub arcs_none_more : (cover : CoverData) (node symbol : ℕ) (arcs : List Arc) → None ≡ pair_step cover.graph node symbol
    → AreArcsBelow (pair_graph cover) node symbol arcs → AreArcsBelow (pair_graph cover) node (symbol + 1) arcs
arcs_none_more cover node symbol arcs none are =
    arcs_skip (pair_graph cover) node symbol (symbol + 1) arcs are (omega arith)
    (λ label u least less arc.
    let same : label ≡ symbol = omega (arith, least, less) in
    none-some u (none ∙ ap (λ s. pair_step cover.graph node s) (sym same) ∙ arc))

-- one arc where it leads to a pair
pub arcs_one_more : (cover : CoverData) (node symbol to : ℕ) (arcs : List Arc) → Some to ≡ pair_step cover.graph node symbol → to < pair_count cover.graph
    → AreArcsBelow (pair_graph cover) node symbol arcs → AreArcsBelow (pair_graph cover) node (symbol + 1) (arcs ++ record { label = symbol; to = to } ∷ [])
arcs_one_more cover node symbol to arcs some inside are =
    arcs_push (pair_graph cover) node symbol arcs (record { label = symbol; to = to }) are (omega arith) (sym some) inside
    (λ label u least less arc. omega (arith, least, less))
    (λ u arc. value_of to u (some ∙ arc))

pub none_told : (o : Option ℕ) → ((x : ℕ) → o ≡ Some x → ⊥) → o ≡ None
none_told None none = refl
none_told (Some x) none = absurd (none x refl)
