-- Sums over a row's edges, and bounds on the numbers of words.
use Rattle.std.proofs.Common.{◌≡◌, ℕ, zero, suc, ◌+◌, ◌*◌, ◌-◌, ◌^◌, ◌<◌, ◌≤◌, List, [], ◌∷◌, ◌++◌, length, get_or, map, Bool, true, false, cond, inl, inr, refl, ap, sym, ◌∙◌, subst, arith}
use Rattle.std.specs.Prelude.{Contains, nat_eq}
use Rattle.std.specs.List.{sum}
use Rattle.std.proofs.Math.Nat.{pow-zero, pow-suc, pow-le-pow_left, pow-le-pow_right, mul-le-mul_right}
use Rattle.std.proofs.lemmas.Bool.{cases_lt}
use Rattle.std.proofs.lemmas.List.{map-append, get_or_past}
use Rattle.std.proofs.lemmas.List.Elements.{Contains-append_right}
use Rattle.std.proofs.lemmas.List.Sums.{sum_by-append}
use Rattle.symbol_base.specs.Ascending.{IsAscending}
use Rattle.label_graphs.specs.Graph.{EdgeData, IsEdgeBefore, HasEdge, IsGraph}
use Rattle.label_graphs.specs.Cover.{CoverData, KeepsSymbols}
use Rattle.label_graphs.proofs.Sums.{sum-cons}
use Rattle.graph_power.specs.inside.Words.{target_total, word_count, words_to}

pub total-cons : (f : ℕ → ℕ) (e : EdgeData) (row : List EdgeData) → target_total f (e ∷ row) ≡ f e.to + target_total f row
total-cons f e row = sum-cons (f e.to) (map (λ (e : EdgeData). f e.to) row)

pub total_push : (f : ℕ → ℕ) (row : List EdgeData) (e : EdgeData) → target_total f (row ++ e ∷ []) ≡ target_total f row + f e.to
total_push f row e =
    let F : EdgeData → ℕ = λ e. f e.to in
    let whole : target_total f (row ++ e ∷ []) ≡ target_total f row + (0 + f e.to) =
    ap (λ (xs : List ℕ). sum xs) (map-append F row (e ∷ [])) ∙ sum_by-append (λ (n : ℕ). n) (map F row) (f e.to ∷ []) in
    omega (arith, whole)

pub total_same : (f g : ℕ → ℕ) (row : List EdgeData) → ((e : EdgeData) → Contains row e → f e.to ≡ g e.to) → target_total f row ≡ target_total g row
total_same f g [] same = refl
total_same f g (e ∷ row) same =
    let here : f e.to ≡ g e.to = same e (0, omega arith, refl) in
    let rest : target_total f row ≡ target_total g row = total_same f g row (λ x found. same x (Contains-append_right (e ∷ []) row x found)) in
    let one = total-cons f e row in
    let other = total-cons g e row in
    omega (arith, here, rest, one, other)

pub total_le : (f : ℕ → ℕ) (most : ℕ) (row : List EdgeData) → ((e : EdgeData) → Contains row e → f e.to ≤ most) → target_total f row ≤ length row * most
total_le f most [] small = omega arith
total_le f most (e ∷ row) small =
    let here : f e.to ≤ most = small e (0, omega arith, refl) in
    let rest : target_total f row ≤ length row * most = total_le f most row (λ x found. small x (Contains-append_right (e ∷ []) row x found)) in
    let one = total-cons f e row in
    omega (arith, here, rest, one)

-- the blocks of a row rise
abbrev pub Rise : List EdgeData → Type 0
Rise row = IsAscending (λ e f. e.block < f.block) row

starts : ℕ → List EdgeData → Type 0
starts low [] = Unit {0}
starts low (e ∷ row) = low ≤ e.block

few_by : (alphabet low : ℕ) (row : List EdgeData) → Rise row → ((e : EdgeData) → Contains row e → e.block < alphabet) → starts low row → length row ≤ alphabet - low
unfolding starts
few_by alphabet low [] order inside here = omega arith
few_by alphabet low (e ∷ []) order inside here =
    let below = inside e (0, omega arith, refl) in omega (arith, below, here)
few_by alphabet low (e ∷ f ∷ row) order inside here =
    let below = inside e (0, omega arith, refl) in
    let rest : length (f ∷ row) ≤ alphabet - suc e.block =
    few_by alphabet (suc e.block) (f ∷ row) order.1 (λ x found. inside x (Contains-append_right (e ∷ []) (f ∷ row) x found)) (omega (arith, order.0)) in
    omega (arith, below, here, rest)

starts_low : (row : List EdgeData) → starts 0 row
unfolding starts
starts_low [] = tt
starts_low (e ∷ row) = omega arith

rise_by : (row : List EdgeData) → IsAscending IsEdgeBefore row → ((e f : EdgeData) → Contains row e → Contains row f → e.block ≡ f.block → e.to ≡ f.to) → Rise row
rise_by [] order single = tt
rise_by (e ∷ []) order single = tt
rise_by (e ∷ f ∷ row) order single = (
  elim order.0 [
    | inl less ↦ less
    | inr both ↦ absurd (
        let same = single e f (0, omega arith, refl) (1, omega arith, refl) both.0 in omega (arith, both.1, same))
  ],
  rise_by (f ∷ row) order.1 (λ x y here there. single x y (Contains-append_right (e ∷ []) (f ∷ row) x here) (Contains-append_right (e ∷ []) (f ∷ row) y there)),
)

-- the rows of a cover rise
pub rises : (cover : CoverData) (state : ℕ) → KeepsSymbols cover → IsGraph cover.graph → Rise (get_or cover.graph state [])
rises cover state known graph = elim (cases_lt state (length cover.graph)) [
  | inl inside ↦ rise_by (get_or cover.graph state []) (graph.order state [] inside)
      (λ e f here there same.
      known.single state e.block e.to f.to here (subst (λ b. HasEdge cover.graph state b f.to) (sym same) there))
  | inr outside ↦ subst (λ (es : List EdgeData). Rise es) (sym (get_or_past cover.graph state [] outside)) tt
]

pub symbol_below : (cover : CoverData) (state : ℕ) (e : EdgeData) → KeepsSymbols cover → Contains (get_or cover.graph state []) e → e.block < cover.alphabet
symbol_below cover state e known found = elim (cases_lt state (length cover.graph)) [
  | inl inside ↦ (
      let low = known.symbols state [] inside found.0 e found.1 in
      let same : (get_or (get_or cover.graph state []) found.0 e).block ≡ e.block = ap (λ (x : EdgeData). x.block) found.2 in
      omega (arith, low, same))
  | inr outside ↦ absurd (
      let none : found.0 < length (◌∷◌ e []) - 1 = subst (λ (es : List EdgeData). found.0 < length es) (get_or_past cover.graph state [] outside) found.1 in
      omega (arith, none))
]

-- a state has at most one edge per symbol
pub few_edges : (cover : CoverData) (state : ℕ) → KeepsSymbols cover → IsGraph cover.graph → length (get_or cover.graph state []) ≤ cover.alphabet
few_edges cover state known graph =
    let all = few_by cover.alphabet 0 (get_or cover.graph state []) (rises cover state known graph)
    (λ e found. symbol_below cover state e known found) (starts_low (get_or cover.graph state [])) in
    omega (arith, all)

more_symbols : (alphabet q many most : ℕ) → many ≤ alphabet → most ≤ many * alphabet ^ q → most ≤ alphabet ^ suc q
more_symbols alphabet q many most few low =
    let up : many * alphabet ^ q ≤ alphabet * alphabet ^ q = mul-le-mul_right (alphabet ^ q) few in
    let power = pow-suc alphabet q in
    omega (arith, low, up, power)

pub word_count_le : (cover : CoverData) (q state : ℕ) → KeepsSymbols cover → IsGraph cover.graph → word_count cover.graph q state ≤ cover.alphabet ^ q
word_count_le cover zero state known graph = let one = pow-zero cover.alphabet in omega (arith, one)
word_count_le cover (suc q) state known graph =
    more_symbols cover.alphabet q (length (get_or cover.graph state [])) (word_count cover.graph (suc q) state) (few_edges cover state known graph)
    (total_le (word_count cover.graph q) (cover.alphabet ^ q) (get_or cover.graph state []) (λ e found. word_count_le cover q e.to known graph))

one_or_none : (b : Bool) → cond {A = ℕ} b 1 0 ≤ 1
one_or_none true = omega arith
one_or_none false = omega arith

pub words_to_le : (cover : CoverData) (q to state : ℕ) → KeepsSymbols cover → IsGraph cover.graph → words_to cover.graph q to state ≤ cover.alphabet ^ q
words_to_le cover zero to state known graph = let one = pow-zero cover.alphabet in let low = one_or_none (nat_eq state to) in omega (arith, one, low)
words_to_le cover (suc q) to state known graph =
    more_symbols cover.alphabet q (length (get_or cover.graph state [])) (words_to cover.graph (suc q) to state) (few_edges cover state known graph)
    (total_le (words_to cover.graph q to) (cover.alphabet ^ q) (get_or cover.graph state []) (λ e found. words_to_le cover q to e.to known graph))

-- powers of an alphabet of at most 4 symbols
pub power_le : (alphabet q most : ℕ) → alphabet ≤ 4 → q ≤ most → alphabet ^ q ≤ 4 ^ most
power_le alphabet q most four few =
    let base : alphabet ^ q ≤ 4 ^ q = pow-le-pow_left four q in
    let power : 4 ^ q ≤ 4 ^ most = pow-le-pow_right (omega arith) few in
    omega (arith, base, power)
