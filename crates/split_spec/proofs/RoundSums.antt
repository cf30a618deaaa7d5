-- Sums over the states of a graph whose split states have two parts.
use Rattle.std.proofs.Common.{◌≡◌, ℕ, suc, ◌+◌, ◌<◌, inl, inr, List, [], ◌∷◌, length, get_or, set, take, drop, map, ap, sym, ◌∙◌, subst, arith, length-drop}
use Rattle.std.specs.Prelude.{Contains, Some, slice_get}
use Rattle.std.specs.List.{sum, range_with_len}
use Rattle.std.proofs.lemmas.Bool.{cases_eq}
use Rattle.std.proofs.lemmas.List.{ext_get_or, length-set, length-map, length-take-le, get_or-take, get_or-drop, get_or-set_same, get_or-set_other}
use Rattle.std.proofs.lemmas.List.Elements.{Contains-get_or}
use Rattle.std.proofs.lemmas.List.FromFn.{length-map-range_with_len, get_or-map-range_with_len}
use Rattle.std.proofs.lemmas.Option.{slice_get_within}
use Rattle.std.proofs.lemmas.List.Sums.{sum_by-cons, sum_by-set, sum_by-take-drop}
use Rattle.symbol_base.proofs.AscendingNumbers.{first_or_rest}
use Rattle.split_spec.specs.Round.{SplitData, IsWhole}
use Rattle.split_spec.proofs.Listed.{listed_first, listed_behind, listed_map, map_listed}
use Rattle.split_spec.proofs.RoundLists.{NoneTwice, numbers_once}
use Rattle.split_spec.proofs.RoundParts.{AreInOrder, split_states, split_listed, state_at, states_ascend, some_split}

-- where one item is made whole again, the others that were whole still are
whole_after : (states xs firsts : List ℕ) (s : ℕ) → length firsts ≡ length xs → s < length xs
    → ((t : ℕ) → t < length xs → (Contains (s ∷ states) t → ⊥) → get_or firsts t 0 ≡ get_or xs t 0)
    → (t : ℕ) → t < length xs → (Contains states t → ⊥) → get_or (set firsts s (get_or xs s 0)) t 0 ≡ get_or xs t 0
whole_after states xs firsts s size s_in whole t t_in none = elim (cases_eq t s) [
  | inl same ↦ subst (λ u. get_or (set firsts s (get_or xs s 0)) u 0 ≡ get_or xs u 0) (sym same)
      (get_or-set_same firsts s (get_or xs s 0) 0 (omega (arith, s_in, size)))
  | inr other ↦ get_or-set_other firsts s t (get_or xs s 0) 0 other ∙ whole t t_in (λ found. elim (first_or_rest s t states found) [
    | inl same ↦ other (sym same)
    | inr behind ↦ none behind
  ])
]

-- Some items of a list are divided, and their rests stand apart: the sums agree, since a rest goes back to its item.
parted_sum : (states xs firsts rests : List ℕ) → NoneTwice states → length firsts ≡ length xs → length rests ≡ length states
    → ((s : ℕ) → Contains states s → s < length xs)
    → ((s : ℕ) → s < length xs → (Contains states s → ⊥) → get_or firsts s 0 ≡ get_or xs s 0)
    → ((k : ℕ) → k < length states → get_or firsts (get_or states k 0) 0 + get_or rests k 0 ≡ get_or xs (get_or states k 0) 0)
    → sum firsts + sum rests ≡ sum xs
parted_sum [] xs firsts [] once size sizes inside whole parts =
    let same : firsts ≡ xs = ext_get_or 0 firsts xs size (λ s s_in. whole s (omega (arith, s_in, size)) (λ none. absurd (omega (arith, none.1)))) in
    let all = ap sum same in
    omega (arith, all)
parted_sum [] xs firsts (r ∷ rests) once size sizes inside whole parts = absurd (omega (arith, sizes))
parted_sum (s ∷ states) xs firsts [] once size sizes inside whole parts = absurd (omega (arith, sizes))
parted_sum (s ∷ states) xs firsts (r ∷ rests) once size sizes inside whole parts =
    let x = get_or xs s 0 in
    let s_in = inside s (listed_first s states) in
    let here : get_or firsts s 0 + r ≡ x = parts 0 (omega arith) in
    let rest = parted_sum states xs (set firsts s x) rests once.1 (length-set firsts s x ∙ size) (omega (arith, sizes))
    (λ t found. inside t (listed_behind s states t found))
    (whole_after states xs firsts s size s_in whole)
    (λ k k_in.
    let t = get_or states k 0 in
    let other : t ≡ s → ⊥ = λ same. once.0 (subst (λ u. Contains states u) same (Contains-get_or states k 0 k_in)) in
    ap (λ u. u + get_or rests k 0) (get_or-set_other firsts s t x 0 other) ∙ parts (suc k) (omega (arith, k_in))) in
    let one = sum_by-set (λ (u : ℕ). u) firsts s x 0 (omega (arith, s_in, size)) in
    let first = sum_by-cons (λ (u : ℕ). u) r rests in
    omega (arith, here, rest, one, first)

-- the same where the rests stand behind the others
rests_behind : (states xs ys : List ℕ) → NoneTwice states → length ys ≡ length xs + length states → ((s : ℕ) → Contains states s → s < length xs)
    → ((s : ℕ) → s < length xs → (Contains states s → ⊥) → get_or ys s 0 ≡ get_or xs s 0)
    → ((k : ℕ) → k < length states → get_or ys (get_or states k 0) 0 + get_or ys (length xs + k) 0 ≡ get_or xs (get_or states k 0) 0)
    → sum ys ≡ sum xs
rests_behind states xs ys once size inside whole parts =
    let m = length xs in
    let back : length (drop m ys) ≡ length states = (let rest = length-drop m ys in omega (arith, rest, size)) in
    let both = parted_sum states xs (take m ys) (drop m ys) once (length-take-le m ys (omega (arith, size))) back inside
    (λ s s_in none. get_or-take m ys s 0 s_in ∙ whole s s_in none)
    (λ k k_in.
    let front = get_or-take m ys (get_or states k 0) 0 (inside (get_or states k 0) (Contains-get_or states k 0 k_in)) in
    let rest = get_or-drop m ys k 0 in
    let here = parts k k_in in
    omega (arith, front, rest, here)) in
    let all = sum_by-take-drop (λ (u : ℕ). u) ys m in
    omega (arith, both, all)

-- Numbers of the states of a graph and numbers of the parts have one sum if a whole state keeps its number, and those of
-- the two parts of a split one add up to its number.
pub sum_over_parts : (splits : List SplitData) (xs ys : List ℕ) → AreInOrder splits → length ys ≡ length xs + length splits
    → ((split : SplitData) → Contains splits split → split.state < length xs)
    → ((state : ℕ) → state < length xs → IsWhole splits state → get_or ys state 0 ≡ get_or xs state 0)
    → ((place : ℕ) (split : SplitData) → slice_get splits place ≡ Some split
    → get_or ys split.state 0 + get_or ys (length xs + place) 0 ≡ get_or xs split.state 0)
    → sum ys ≡ sum xs
sum_over_parts splits xs ys order size inside whole parts =
    let state_of : SplitData → ℕ = λ split. split.state in
    let states = split_states splits in
    let many : length states ≡ length splits = length-map splits state_of in
    let once = numbers_once states (states_ascend splits order) in
    rests_behind states xs ys once (omega (arith, size, many))
    (λ s found. let split = listed_map state_of splits s found in subst (λ t. t < length xs) split.2 (inside split.0 split.1))
    (λ s s_in none. whole s s_in (λ k d k_in same.
    none (subst (λ t. Contains states t) same (map_listed state_of splits (get_or splits k d) (Contains-get_or splits k d k_in)))))
    (λ k k_in.
    let split = some_split splits k (omega (arith, k_in, many)) in
    subst (λ s. get_or ys s 0 + get_or ys (length xs + k) 0 ≡ get_or xs s 0) (sym (state_at splits k split.0 split.1)) (parts k split.0 split.1))

-- the same for numbers that are given for each state
pub sum_over_states : (splits : List SplitData) (m count : ℕ) (F G : ℕ → ℕ) → AreInOrder splits → count ≡ m + length splits
    → ((split : SplitData) → Contains splits split → split.state < m)
    → ((state : ℕ) → state < m → IsWhole splits state → F state ≡ G state)
    → ((place : ℕ) (split : SplitData) → slice_get splits place ≡ Some split → F split.state + F (m + place) ≡ G split.state)
    → sum (map F (range_with_len 0 count)) ≡ sum (map G (range_with_len 0 m))
sum_over_states splits m count F G order size inside whole parts =
    let xs = map G (range_with_len 0 m) in
    let ys = map F (range_with_len 0 count) in
    let many : length xs ≡ m = length-map-range_with_len G 0 m in
    let more : length ys ≡ count = length-map-range_with_len F 0 count in
    let old : (k : ℕ) → k < m → get_or xs k 0 ≡ G k = λ k low. get_or-map-range_with_len G 0 m k k 0 low (omega arith) in
    let new : (k : ℕ) → k < count → get_or ys k 0 ≡ F k = λ k low. get_or-map-range_with_len F 0 count k k 0 low (omega arith) in
    sum_over_parts splits xs ys order (omega (arith, many, more, size)) (λ split found. let low = inside split found in omega (arith, low, many))
    (λ k k_in unsplit.
    let low : k < m = omega (arith, k_in, many) in
    new k (omega (arith, low, size)) ∙ whole k low unsplit ∙ sym (old k low))
    (λ place split at.
    let low = inside split (split_listed splits place split at) in
    let within = slice_get_within splits place split at in
    let first = new split.state (omega (arith, low, size)) in
    let second = new (m + place) (omega (arith, within, size)) in
    let there = ap (λ k. get_or ys (k + place) 0) many in
    omega (arith, first, second, there, parts place split at, old split.state low))
