-- Lists in which no item comes twice, and sums over them.
use Rattle.std.proofs.Common.{◌≡◌, ℕ, ◌+◌, ◌<◌, ◌⊎◌, inl, inr, List, [], ◌∷◌, ◌++◌, map, refl, ap, sym, ◌∙◌, subst, arith}
use Rattle.std.specs.Prelude.{Contains}
use Rattle.std.specs.List.{sum_by, flat_map}
use Rattle.std.proofs.lemmas.List.Elements.{Contains-append_left, Contains-append_right, Contains-append_cases}
use Rattle.std.proofs.lemmas.List.Sums.{sum_by-cons, sum_by-append}
use Rattle.symbol_base.specs.Ascending.{IsAscending}
use Rattle.symbol_base.proofs.AscendingNumbers.{first_or_rest}
use Rattle.split_spec.proofs.Listed.{listed_first, listed_behind, listed_map, listed_flat}
use Rattle.split_spec.proofs.OrderTold.{IsStrictOrder, number_strict, first_before, rest_ascends}

-- no item comes twice
abbrev pub NoneTwice : {X : Type 0} → List X → Type 0
NoneTwice [] = Unit {0}
NoneTwice (x ∷ xs) = (Contains xs x → ⊥) × NoneTwice xs

-- of two lists that follow one another, the first
pub once_left : {X : Type 0} (xs ys : List X) → NoneTwice (xs ++ ys) → NoneTwice xs
once_left [] ys once = tt
once_left (x ∷ xs) ys once = ((λ found. once.0 (Contains-append_left xs ys x found)), once_left xs ys once.1)

-- the second
pub once_right : {X : Type 0} (xs ys : List X) → NoneTwice (xs ++ ys) → NoneTwice ys
once_right [] ys once = once
once_right (x ∷ xs) ys once = once_right xs ys once.1

-- and that they have no item in common
pub once_apart : {X : Type 0} (xs ys : List X) → NoneTwice (xs ++ ys) → (z : X) → Contains xs z → Contains ys z → ⊥
once_apart [] ys once z here there = absurd (omega (arith, here.1))
once_apart {X = X} (x ∷ xs) ys once z here there = elim (first_or_rest x z xs here) [
  | inl same ↦ once.0 (subst (λ (w : X). Contains (xs ++ ys) w) (sym same) (Contains-append_right xs ys z there))
  | inr rest ↦ once_apart xs ys once.1 z rest there
]

-- two such lists with no item in common
pub once_joined : {X : Type 0} (xs ys : List X) → NoneTwice xs → NoneTwice ys → ((z : X) → Contains xs z → Contains ys z → ⊥) → NoneTwice (xs ++ ys)
once_joined [] ys left right apart = right
once_joined (x ∷ xs) ys left right apart = (
  (λ found. elim (Contains-append_cases xs ys x found) [
    | inl here ↦ left.0 here
    | inr there ↦ apart x (listed_first x xs) there
  ]),
  once_joined xs ys left.1 right (λ z here there. apart z (listed_behind x xs z here) there),
)

-- in a list in a strict order none comes twice
pub once_ascending : {X : Type 0} (before : X → X → Type 0) → IsStrictOrder before → (xs : List X) → IsAscending before xs → NoneTwice xs
once_ascending before strict [] order = tt
once_ascending before strict (x ∷ xs) order = (
  (λ found. strict.never x (first_before before x xs strict order x found)),
  once_ascending before strict xs (rest_ascends before x xs order),
)

-- in ascending numbers none comes twice
pub numbers_once : (xs : List ℕ) → IsAscending (λ s t. s < t) xs → NoneTwice xs
numbers_once xs order = once_ascending (λ (s t : ℕ). s < t) number_strict xs order

-- what stands before and behind an item of a list
place_of : {X : Type 0} (xs : List X) (x : X) → Contains xs x → (front : List X) × (back : List X) × (xs ≡ front ++ x ∷ back)
place_of [] x found = absurd (omega (arith, found.1))
place_of {X = X} (y ∷ xs) x found = elim (first_or_rest y x xs found) [
  | inl same ↦ ([], xs, ap (λ (z : X). z ∷ xs) same)
  | inr rest ↦ (let place = place_of xs x rest in (y ∷ place.0, place.1, ap (λ (zs : List X). y ∷ zs) place.2))
]

-- what is listed still is with one more item in between
listed_more : {X : Type 0} (front : List X) (x : X) (back : List X) (z : X) → Contains (front ++ back) z → Contains (front ++ x ∷ back) z
listed_more front x back z found = elim (Contains-append_cases front back z found) [
  | inl here ↦ Contains-append_left front (x ∷ back) z here
  | inr there ↦ Contains-append_right front (x ∷ back) z (listed_behind x back z there)
]

-- and what is listed with it is that item or was listed without it
listed_less : {X : Type 0} (front : List X) (x : X) (back : List X) (z : X) → Contains (front ++ x ∷ back) z → (x ≡ z) ⊎ Contains (front ++ back) z
listed_less front x back z found = elim (Contains-append_cases front (x ∷ back) z found) [
  | inl here ↦ inr (Contains-append_left front back z here)
  | inr there ↦ elim (first_or_rest x z back there) [
    | inl same ↦ inl same
    | inr rest ↦ inr (Contains-append_right front back z rest)
  ]
]

-- an item that is taken out of such a list is gone
once_without : {X : Type 0} (front : List X) (x : X) (back : List X) → NoneTwice (front ++ x ∷ back)
    → NoneTwice (front ++ back) × (Contains (front ++ back) x → ⊥)
once_without [] x back once = (once.1, once.0)
once_without {X = X} (z ∷ front) x back once =
    let rest = once_without front x back once.1 in (
      ((λ found. once.0 (listed_more front x back z found)), rest.0),
      (λ found. elim (first_or_rest z x (front ++ back) found) [
        | inl same ↦ once.0
            (subst (λ (w : X). Contains (front ++ x ∷ back) w) (sym same) (Contains-append_right front (x ∷ back) x (listed_first x back)))
        | inr other ↦ rest.1 other
      ]),
    )

-- one item in between adds its number to the sum
sum_without : {X : Type 0} (f : X → ℕ) (front : List X) (x : X) (back : List X) → sum_by f (front ++ x ∷ back) ≡ f x + sum_by f (front ++ back)
sum_without f front x back =
    let all = sum_by-append f front (x ∷ back) in
    let one = sum_by-cons f x back in
    let rest = sum_by-append f front back in
    omega (arith, all, one, rest)

-- two such lists with the same items have one sum
pub same_sums : {X : Type 0} (f : X → ℕ) (xs ys : List X) → NoneTwice xs → NoneTwice ys → ((z : X) → Contains xs z → Contains ys z)
    → ((z : X) → Contains ys z → Contains xs z) → sum_by f xs ≡ sum_by f ys
same_sums f [] [] once others there here = refl
same_sums f [] (y ∷ ys) once others there here = absurd (let none = here y (listed_first y ys) in omega (arith, none.1))
same_sums {X = X} f (x ∷ xs) ys once others there here =
    let place = place_of ys x (there x (listed_first x xs)) in
    let front = place.0 in
    let back = place.1 in
    let less = once_without front x back (subst (λ (zs : List X). NoneTwice zs) place.2 others) in
    let rest = same_sums f xs (front ++ back) once.1 less.0
    (λ z found. elim (listed_less front x back z (subst (λ (zs : List X). Contains zs z) place.2 (there z (listed_behind x xs z found)))) [
      | inl same ↦ absurd (once.0 (subst (λ (w : X). Contains xs w) (sym same) found))
      | inr other ↦ other
    ])
    (λ z found. elim (first_or_rest x z xs (here z (subst (λ (zs : List X). Contains zs z) (sym place.2) (listed_more front x back z found)))) [
      | inl same ↦ absurd (less.1 (subst (λ (w : X). Contains (front ++ back) w) (sym same) found))
      | inr other ↦ other
    ]) in
    sum_by-cons f x xs ∙ ap (λ n. f x + n) rest ∙ sym (ap (λ (zs : List X). sum_by f zs) place.2 ∙ sum_without f front x back)

-- the sum of a list with one item
pub sum_of_one : {X : Type 0} (f : X → ℕ) (xs : List X) (a : X) → NoneTwice xs → Contains xs a → ((z : X) → Contains xs z → z ≡ a) → sum_by f xs ≡ f a
sum_of_one {X = X} f xs a once listed alone =
    let same = same_sums f xs (a ∷ []) once ((λ none. omega (arith, none.1)), tt) (λ z found. (0, omega arith, sym (alone z found)))
    (λ z found. elim (first_or_rest a z [] found) [
      | inl is ↦ subst (λ (w : X). Contains xs w) is listed
      | inr none ↦ absurd (omega (arith, none.1))
    ]) in
    let one = sum_by-cons f a [] in
    omega (arith, same, one)

-- and of one with two
pub sum_of_two : {X : Type 0} (f : X → ℕ) (xs : List X) (a b : X) → NoneTwice xs → (a ≡ b → ⊥) → Contains xs a → Contains xs b
    → ((z : X) → Contains xs z → (z ≡ a) ⊎ (z ≡ b)) → sum_by f xs ≡ f a + f b
sum_of_two {X = X} f xs a b once differ first second alone =
    let listed : (z w : X) → w ≡ z → Contains xs w → Contains xs z = λ z w is found. subst (λ (x : X). Contains xs x) is found in
    let both : NoneTwice (a ∷ b ∷ []) = (
      (λ found. elim (first_or_rest b a [] found) [
        | inl is ↦ differ (sym is)
        | inr none ↦ omega (arith, none.1)
      ]),
      ((λ none. omega (arith, none.1)), tt),
    ) in
    let same = same_sums f xs (a ∷ b ∷ []) once both
    (λ z found. elim (alone z found) [
      | inl is ↦ (0, omega arith, sym is)
      | inr is ↦ (1, omega arith, sym is)
    ])
    (λ z found. elim (first_or_rest a z (b ∷ []) found) [
      | inl is ↦ listed z a is first
      | inr rest ↦ elim (first_or_rest b z [] rest) [
        | inl is ↦ listed z b is second
        | inr none ↦ absurd (omega (arith, none.1))
      ]
    ]) in
    let one = sum_by-cons f a (b ∷ []) in
    let two = sum_by-cons f b [] in
    omega (arith, same, one, two)

-- none comes twice if each made item tells of which it is made
pub once_map : {X Y : Type 0} (f : X → Y) (source : Y → X) → ((x : X) → source (f x) ≡ x) → (xs : List X) → NoneTwice xs → NoneTwice (map f xs)
once_map f source tells [] once = tt
once_map {X = X} f source tells (x ∷ xs) once = (
  (λ found.
      let other = listed_map f xs (f x) found in
      once.0 (subst (λ (w : X). Contains xs w) (sym (tells other.0) ∙ ap source other.2 ∙ tells x) other.1)),
  once_map f source tells xs once.1,
)

-- the sum over made items is one over those of which they are made
pub sum_by-map : {X Y : Type 0} (f : Y → ℕ) (make : X → Y) (xs : List X) → sum_by f (map make xs) ≡ sum_by (λ x. f (make x)) xs
sum_by-map f make [] = refl
sum_by-map {X = X} f make (x ∷ xs) =
    let rest = sum_by-map f make xs in
    let here = sum_by-cons f (make x) (map make xs) in
    let there = sum_by-cons (λ (z : X). f (make z)) x xs in
    omega (arith, rest, here, there)

-- none comes twice if each item of a made list tells of which it is made
pub once_flat : {X Y : Type 0} (F : X → List Y) (source : Y → X) → ((x : X) → NoneTwice (F x)) → ((x : X) (y : Y) → Contains (F x) y → source y ≡ x)
    → (xs : List X) → NoneTwice xs → NoneTwice (flat_map F xs)
once_flat F source each tells [] once = tt
once_flat {X = X} F source each tells (x ∷ xs) once =
    once_joined (F x) (flat_map F xs) (each x) (once_flat F source each tells xs once.1)
    (λ y here there.
    let other = listed_flat F xs y there in
    once.0 (subst (λ (w : X). Contains xs w) (sym (tells other.0 y other.2) ∙ tells x y here) other.1))

-- the sum of sums
pub sum_flat : {X Y : Type 0} (F : X → List Y) (f : Y → ℕ) (whole : X → ℕ) (xs : List X) → ((x : X) → Contains xs x → sum_by f (F x) ≡ whole x)
    → sum_by f (flat_map F xs) ≡ sum_by whole xs
sum_flat F f whole [] each = refl
sum_flat F f whole (x ∷ xs) each =
    let rest = sum_flat F f whole xs (λ z found. each z (listed_behind x xs z found)) in
    let here = each x (listed_first x xs) in
    let all = sum_by-append f (F x) (flat_map F xs) in
    let other = sum_by-cons whole x xs in
    omega (arith, rest, here, all, other)
