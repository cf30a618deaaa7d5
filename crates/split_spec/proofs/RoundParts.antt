-- The states that a round makes: a state that isn't split, and the two parts of one that is.
use Rattle.std.proofs.Common.{◌≡◌, ℕ, zero, suc, ◌+◌, ◌-◌, ◌<◌, ◌⊎◌, inl, inr, refl, ap, sym, ◌∙◌, subst, arith}
use Rattle.std.proofs.Common.{List, [], ◌∷◌, ◌++◌, length, length-append, get_or, map}
use Rattle.std.specs.Prelude.{Contains, Some, slice_get}
use Rattle.std.specs.List.{range_with_len}
use Rattle.std.proofs.lemmas.Bool.{cases_lt, cases_eq}
use Rattle.std.proofs.lemmas.List.{get_or-map, length-map, get_or_append_left, get_or-append-add}
use Rattle.std.proofs.lemmas.List.Elements.{All-nil, All-cons, All-contains}
use Rattle.std.proofs.lemmas.List.FromFn.{get_or-range_with_len, length-range_with_len}
use Rattle.std.proofs.lemmas.Option.{slice_get_within, slice_get-get_or, get_or_from_slice_get, same_Some}
use Rattle.symbol_base.specs.Ascending.{IsAscending}
use Rattle.split_spec.specs.Round.{SplitData, IsWhole}
use Rattle.split_spec.proofs.Listed.{listed_first, listed_behind}
use Rattle.split_spec.proofs.OrderTold.{number_strict, one_place}

-- the states that are split
abbrev pub split_states : List SplitData → List ℕ
split_states splits = map (λ split. split.state) splits

-- the order of splits, by their states
abbrev pub IsSplitBefore : SplitData → SplitData → Type 0
IsSplitBefore a b = a.state < b.state

-- in which they stand
abbrev pub AreInOrder : List SplitData → Type 0
AreInOrder splits = IsAscending IsSplitBefore splits

-- a split that is listed has a place
pub split_place : (splits : List SplitData) (split : SplitData) → Contains splits split → (place : ℕ) × (slice_get splits place ≡ Some split)
split_place splits split found = (found.0, slice_get-get_or splits found.0 split found.1 ∙ ap (λ (s : SplitData). Some s) found.2)

-- and one at a place is listed
pub split_listed : (splits : List SplitData) (place : ℕ) (split : SplitData) → slice_get splits place ≡ Some split → Contains splits split
split_listed splits place split at = (place, slice_get_within splits place split at, get_or_from_slice_get splits place split split at)

-- the split states stand in the order of the splits
pub state_at : (splits : List SplitData) (place : ℕ) (split : SplitData) → slice_get splits place ≡ Some split
    → get_or (split_states splits) place 0 ≡ split.state
state_at splits place split at =
    get_or-map (λ (s : SplitData). s.state) splits place split 0 (slice_get_within splits place split at)
    ∙ ap (λ (s : SplitData). s.state) (get_or_from_slice_get splits place split split at)

-- and ascend
pub states_ascend : (splits : List SplitData) → AreInOrder splits → IsAscending (λ s t. s < t) (split_states splits)
states_ascend [] order = tt
states_ascend (s ∷ []) order = tt
states_ascend (s ∷ t ∷ splits) order = (order.0, states_ascend (t ∷ splits) order.1)

-- a state has one split, at one place
pub one_split_place : (splits : List SplitData) (i j : ℕ) (a b : SplitData) → AreInOrder splits → slice_get splits i ≡ Some a → slice_get splits j ≡ Some b
    → a.state ≡ b.state → i ≡ j
one_split_place splits i j a b order here there same =
    let many : length (split_states splits) ≡ length splits = length-map splits (λ (s : SplitData). s.state) in
    let i_in = slice_get_within splits i a here in
    let j_in = slice_get_within splits j b there in
    one_place (λ s t. s < t) (split_states splits) i j 0 number_strict (states_ascend splits order)
    (omega (arith, many, i_in)) (omega (arith, many, j_in)) (state_at splits i a here ∙ same ∙ sym (state_at splits j b there))

-- a state has one split
pub one_split : (splits : List SplitData) (a b : SplitData) → AreInOrder splits → Contains splits a → Contains splits b → a.state ≡ b.state → a ≡ b
one_split splits a b order here there same =
    let i = split_place splits a here in
    let j = split_place splits b there in
    let place = one_split_place splits i.0 j.0 a b order i.1 j.1 same in
    same_Some a b (sym i.1 ∙ ap (λ k. slice_get splits k) place ∙ j.1)

-- a state is split or whole
pub split_or_whole : (splits : List SplitData) (state : ℕ) → ((split : SplitData) × Contains splits split × (split.state ≡ state)) ⊎ IsWhole splits state
split_or_whole [] state = inr (All-nil (λ (split : SplitData). split.state ≡ state → ⊥))
split_or_whole (s ∷ splits) state = elim (cases_eq s.state state) [
  | inl same ↦ inl (s, listed_first s splits, same)
  | inr other ↦ elim (split_or_whole splits state) [
    | inl found ↦ inl (found.0, listed_behind s splits found.0 found.1, found.2)
    | inr whole ↦ inr (All-cons (λ (split : SplitData). split.state ≡ state → ⊥) s splits other whole)
  ]
]

-- but not both
pub whole_unsplit : (splits : List SplitData) (state : ℕ) (split : SplitData) → IsWhole splits state → Contains splits split → split.state ≡ state → ⊥
whole_unsplit splits state split whole found same = All-contains (λ (s : SplitData). s.state ≡ state → ⊥) splits split whole found same

-- at each place stands a split
pub some_split : (splits : List SplitData) (place : ℕ) → place < length splits → (split : SplitData) × (slice_get splits place ≡ Some split)
some_split [] place inside = absurd (omega (arith, inside))
some_split (s ∷ splits) zero inside = (s, refl)
some_split (s ∷ splits) (suc place) inside = some_split splits place (omega (arith, inside))

-- What is known of the parents that a round gives, where the graph had m states.
module _ (m : ℕ) (splits : List SplitData) (parents : List ℕ) (are : parents ≡ range_with_len 0 m ++ split_states splits) where
  -- there are as many new states as old ones and splits
  pub parents_size : length parents ≡ m + length splits
  parents_size =
      let all = ap (λ (xs : List ℕ). length xs) are ∙ length-append (range_with_len 0 m) (split_states splits) in
      let front = length-range_with_len 0 m in
      let back = length-map splits (λ (s : SplitData). s.state) in
      omega (arith, all, front, back)

  -- a state that keeps its number is its own parent
  pub parent_low : (state : ℕ) → state < m → get_or parents state 0 ≡ state
  parent_low state inside =
      let front = length-range_with_len 0 m in
      let here = get_or_append_left (range_with_len 0 m) (split_states splits) 0 state (omega (arith, front, inside)) in
      let own = get_or-range_with_len 0 m state 0 inside in
      ap (λ (xs : List ℕ). get_or xs state 0) are ∙ here ∙ omega (arith, own)

  -- the parent of a new part is the split state
  pub parent_high : (place : ℕ) (split : SplitData) → slice_get splits place ≡ Some split → get_or parents (m + place) 0 ≡ split.state
  parent_high place split at =
      let front = length-range_with_len 0 m in
      ap (λ (xs : List ℕ). get_or xs (m + place) 0) are
      ∙ ap (λ k. get_or (range_with_len 0 m ++ split_states splits) (k + place) 0) (sym front)
      ∙ get_or-append-add (range_with_len 0 m) (split_states splits) place 0 ∙ state_at splits place split at

  -- a state keeps its number or is a new part
  pub low_or_high : (state : ℕ) → state < length parents
      → (state < m) ⊎ ((place : ℕ) × (split : SplitData) × (slice_get splits place ≡ Some split) × (m + place ≡ state))
  low_or_high state inside = elim (cases_lt state m) [
    | inl low ↦ inl low
    | inr high ↦ inr (
        let size = parents_size in
        let place : ℕ = state - m in
        let back : m + place ≡ state = omega (arith, high) in
        let within : place < length splits = omega (arith, inside, size, back) in
        let found = some_split splits place within in (place, found.0, found.1, back))
  ]

  -- the only part of a whole state
  pub part_of_whole : (state part : ℕ) → IsWhole splits state → part < length parents → get_or parents part 0 ≡ state → part ≡ state
  part_of_whole state part whole inside parent = elim (low_or_high part inside) [
    | inl low ↦ sym (parent_low part low) ∙ parent
    | inr high ↦ absurd (whole_unsplit splits state high.1 whole (split_listed splits high.0 high.1 high.2)
        (sym (parent_high high.0 high.1 high.2) ∙ ap (λ k. get_or parents k 0) high.3 ∙ parent))
  ]

  -- the two parts of a split state
  pub part_of_split : (place : ℕ) (split : SplitData) (part : ℕ) → AreInOrder splits → slice_get splits place ≡ Some split → part < length parents
      → get_or parents part 0 ≡ split.state → (part ≡ split.state) ⊎ (part ≡ m + place)
  part_of_split place split part order at inside parent = elim (low_or_high part inside) [
    | inl low ↦ inl (sym (parent_low part low) ∙ parent)
    | inr high ↦ inr (
        let same : high.1.state ≡ split.state = sym (parent_high high.0 high.1 high.2) ∙ ap (λ k. get_or parents k 0) high.3 ∙ parent in
        let equal = one_split_place splits high.0 place high.1 split order high.2 at same in
        let back = high.3 in
        omega (arith, back, equal))
  ]

  -- what holds of whole states and of both parts of split ones holds of all
  pub part_by : (P : ℕ → Type 0) → ((state : ℕ) → state < m → IsWhole splits state → P state)
      → ((place : ℕ) (split : SplitData) → slice_get splits place ≡ Some split → P split.state)
      → ((place : ℕ) (split : SplitData) → slice_get splits place ≡ Some split → P (m + place)) → (part : ℕ) → part < length parents → P part
  part_by P unsplit first second part inside = elim (low_or_high part inside) [
    | inr high ↦ subst P high.3 (second high.0 high.1 high.2)
    | inl low ↦ elim (split_or_whole splits part) [
      | inr whole ↦ unsplit part low whole
      | inl found ↦ (let place = split_place splits found.0 found.1 in subst P found.2 (first place.0 found.0 place.1))
    ]
  ]

  -- a parent is one of the states
  pub parent_inside : ((split : SplitData) → Contains splits split → split.state < m) → (part : ℕ) → part < length parents → get_or parents part 0 < m
  parent_inside low = part_by (λ part. get_or parents part 0 < m)
      (λ state inside whole. let own = parent_low state inside in omega (arith, own, inside))
      (λ place split at. let inside = low split (split_listed splits place split at) in let own = parent_low split.state inside in omega (arith, own, inside))
      (λ place split at. let inside = low split (split_listed splits place split at) in let own = parent_high place split at in omega (arith, own, inside))
