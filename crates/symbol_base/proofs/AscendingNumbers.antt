-- Lists of numbers in ascending order: what filters and ranges list, and that such a list is told by its items.
use Rattle.std.proofs.Common.{◌≡◌, ◌↔◌, ℕ, zero, suc, ◌+◌, ◌-◌, ◌<◌, ◌≤◌, List, [], ◌∷◌, ◌⊎◌, inl, inr, Bool, true, false, cond, length, get_or, refl, ap, sym, ◌∙◌, subst, arith}
use Rattle.std.specs.Prelude.{filter}
use Rattle.std.specs.List.{Contains, range_with_len}
use Rattle.std.proofs.lemmas.List.Elements.{All-contains, All-filter, All-contains_itself, filter_passes, Contains-append_right, Contains-append_cases}
use Rattle.std.proofs.lemmas.List.FromFn.{get_or-range_with_len, length-range_with_len}
use Rattle.symbol_base.specs.Ascending.{IsAscending}

-- a number of a range is listed there
pub Contains-range :
    (from count n : ℕ) → Contains (range_with_len from count) n ↔ ((from ≤ n) × (n < from + count))
Contains-range from count n = (
  (λ found.
      let inside : found.0 < count = omega (arith, found.1, length-range_with_len from count) in
      let same : from + found.0 ≡ n = sym (get_or-range_with_len from count found.0 n inside) ∙ found.2 in
      (omega arith, omega arith)),
  (λ bounds.
      let place : n - from < count = omega (arith, bounds.0, bounds.1) in
      let back : from + (n - from) ≡ n = omega (arith, bounds.0) in
      let within : n - from < length (range_with_len from count) = omega (arith, length-range_with_len from count) in
      (n - from, within, get_or-range_with_len from count (n - from) n place ∙ back)),
)

-- what a filter keeps is listed and passes
pub filter_keeps :
    {X : Type 0} (p : X → Bool) (xs : List X) (x : X) → Contains (filter p xs) x → Contains xs x × (p x ≡ true)
filter_keeps {X = X} p xs x found = (
  All-contains (λ (x : X). Contains xs x) (filter p xs) x (All-filter p (λ (x : X). Contains xs x) xs (All-contains_itself xs)) found,
  All-contains (λ (x : X). p x ≡ true) (filter p xs) x (filter_passes p xs) found,
)

-- an item of a list is its first or one behind it
pub first_or_rest : {X : Type 0} (y x : X) (xs : List X) → Contains (y ∷ xs) x → (y ≡ x) ⊎ Contains xs x
first_or_rest y x xs found = elim (Contains-append_cases (y ∷ []) xs x found) [
  | inl first ↦ inl (let place : first.0 ≡ 0 = omega (arith, first.1) in subst (λ k. get_or (y ∷ []) k x ≡ x) place first.2)
  | inr rest ↦ inr rest
]

kept_by :
    {X : Type 0} (p : X → Bool) (y : X) (xs : List X) (x : X) (b : Bool) → p y ≡ b → p x ≡ true → (y ≡ x) ⊎ Contains xs x
    → (Contains xs x → Contains (filter p xs) x) → Contains (cond b (y ∷ filter p xs) (filter p xs)) x
kept_by p y xs x true test passes (inl first) more = (0, omega arith, first)
kept_by p y xs x false test passes (inl first) more =
    absurd (let other : p x ≡ false = ap p (sym first) ∙ test in cc)
kept_by p y xs x true test passes (inr rest) more = Contains-append_right (y ∷ []) (filter p xs) x (more rest)
kept_by p y xs x false test passes (inr rest) more = more rest

-- what is listed and passes is kept
pub filter_kept :
    {X : Type 0} (p : X → Bool) (xs : List X) (x : X) → Contains xs x → p x ≡ true → Contains (filter p xs) x
filter_kept p [] x found passes = absurd (omega (arith, found.1))
filter_kept p (y ∷ xs) x found passes =
    kept_by p y xs x (p y) refl passes (first_or_rest y x xs found) (λ rest. filter_kept p xs x rest passes)

-- a number before all items of an ascending list
ascending_by :
    (n : ℕ) (xs : List ℕ) → ((x : ℕ) → Contains xs x → n < x) → IsAscending (λ s t. s < t) xs
    → IsAscending (λ s t. s < t) (n ∷ xs)
ascending_by n [] below order = tt
ascending_by n (x ∷ xs) below order = (below x (0, omega arith, refl), order)

order_by :
    (p : ℕ → Bool) (from count : ℕ) (b : Bool)
    → IsAscending (λ s t. s < t) (filter p (range_with_len (from + 1) count))
    → IsAscending (λ s t. s < t) (cond b (from ∷ filter p (range_with_len (from + 1) count)) (filter p (range_with_len (from + 1) count)))
order_by p from count true rest =
    ascending_by from (filter p (range_with_len (from + 1) count))
    (λ x found.
    let kept = filter_keeps p (range_with_len (from + 1) count) x found in
    let listed = (Contains-range (from + 1) count x).0 kept.0 in omega (arith, listed.0)) rest
order_by p from count false rest = rest

-- numbers of a range that pass a test are ascending
pub filter_ascends :
    (p : ℕ → Bool) (from count : ℕ) → IsAscending (λ s t. s < t) (filter p (range_with_len from count))
filter_ascends p from zero = tt
filter_ascends p from (suc count) = order_by p from count (p from) (filter_ascends p (from + 1) count)

-- so are all numbers of a range
pub range_ascends : (from count : ℕ) → IsAscending (λ s t. s < t) (range_with_len from count)
range_ascends from zero = tt
range_ascends from (suc count) =
    ascending_by from (range_with_len (from + 1) count)
    (λ x found. let listed = (Contains-range (from + 1) count x).0 found in omega (arith, listed.0)) (range_ascends (from + 1) count)

-- the first item of an ascending list is below the others
first_below : (n : ℕ) (xs : List ℕ) (x : ℕ) → IsAscending (λ s t. s < t) (n ∷ xs) → Contains xs x → n < x
first_below n [] x order found = absurd (omega (arith, found.1))
first_below n (y ∷ xs) x order found = elim (first_or_rest y x xs found) [
  | inl first ↦ omega (arith, order.0, first)
  | inr rest ↦ (let behind = first_below y xs x order.1 rest in omega (arith, order.0, behind))
]

-- and what is left of it is ascending
rest_ascends : (n : ℕ) (xs : List ℕ) → IsAscending (λ s t. s < t) (n ∷ xs) → IsAscending (λ s t. s < t) xs
rest_ascends n [] order = tt
rest_ascends n (x ∷ xs) order = order.1

-- an item of one list is the first of the other or behind it
first_same :
    (x y : ℕ) (xs ys : List ℕ) → IsAscending (λ s t. s < t) (x ∷ xs) → IsAscending (λ s t. s < t) (y ∷ ys)
    → Contains (y ∷ ys) x → Contains (x ∷ xs) y → x ≡ y
first_same x y xs ys left right here there = elim (first_or_rest y x ys here) [
  | inl same ↦ sym same
  | inr behind ↦ elim (first_or_rest x y xs there) [
    | inl same ↦ same
    | inr other ↦ absurd (let up = first_below y ys x right behind in let down = first_below x xs y left other in omega arith)
  ]
]

-- an item behind the first of one list stands behind that of the other
rest_listed :
    (x y : ℕ) (xs ys : List ℕ) → x ≡ y → IsAscending (λ s t. s < t) (x ∷ xs)
    → ((n : ℕ) → Contains (x ∷ xs) n → Contains (y ∷ ys) n) → (n : ℕ) → Contains xs n → Contains ys n
rest_listed x y xs ys same order listed n found =
    elim (first_or_rest y n ys (listed n (Contains-append_right (x ∷ []) xs n found))) [
      | inl first ↦ absurd (let behind = first_below x xs n order found in omega (arith, same, first))
      | inr rest ↦ rest
    ]

-- two ascending lists of the same items are one
pub ascending_same :
    (xs ys : List ℕ) → IsAscending (λ s t. s < t) xs → IsAscending (λ s t. s < t) ys
    → ((n : ℕ) → Contains xs n → Contains ys n) → ((n : ℕ) → Contains ys n → Contains xs n) → xs ≡ ys
ascending_same [] [] left right there here = refl
ascending_same [] (y ∷ ys) left right there here =
    absurd (let none = here y (0, omega arith, refl) in omega (arith, none.1))
ascending_same (x ∷ xs) [] left right there here =
    absurd (let none = there x (0, omega arith, refl) in omega (arith, none.1))
ascending_same (x ∷ xs) (y ∷ ys) left right there here =
    let first = first_same x y xs ys left right (there x (0, omega arith, refl)) (here y (0, omega arith, refl)) in
    let rest = ascending_same xs ys (rest_ascends x xs left) (rest_ascends y ys right)
    (rest_listed x y xs ys first left there) (rest_listed y x ys xs (sym first) right here) in
    cc
