-- Lists in a strict order: an item comes before each later one, so it stands at one place, and a list is told by its items.
use Rattle.std.proofs.Common.{◌≡◌, ℕ, zero, suc, ◌<◌, List, [], ◌∷◌, length, get_or, inl, inr, refl, sym, ◌∙◌, subst, arith}
use Rattle.std.specs.Prelude.{Contains}
use Rattle.std.proofs.lemmas.Bool.{cases_order}
use Rattle.std.proofs.lemmas.List.Elements.{Contains-get_or}
use Rattle.symbol_base.specs.Ascending.{IsAscending}
use Rattle.symbol_base.proofs.AscendingNumbers.{first_or_rest}
use Rattle.split_spec.proofs.Listed.{listed_first, listed_behind}

-- what comes before what comes before an item comes before it, and nothing before itself
pub record IsStrictOrder {A : Type 0} (before : A → A → Type 0) : Type 0 where
  pub trans : (a b c : A) → before a b → before b c → before a c
  pub never : (a : A) → before a a → ⊥

-- the order of numbers is strict
pub number_strict : IsStrictOrder (λ s t. s < t)
number_strict = record {
  trans = λ a b c one other. omega (arith, one, other);
  never = λ a less. absurd (omega (arith, less));
}

-- the first item comes before each other one
pub first_before : {A : Type 0} (before : A → A → Type 0) (a : A) (xs : List A) → IsStrictOrder before → IsAscending before (a ∷ xs)
    → (b : A) → Contains xs b → before a b
first_before before a [] strict order b found = absurd (omega (arith, found.1))
first_before {A = A} before a (x ∷ xs) strict order b found = elim (first_or_rest x b xs found) [
  | inl same ↦ subst (λ (y : A). before a y) same order.0
  | inr rest ↦ strict.trans a x b order.0 (first_before before x xs strict order.1 b rest)
]

-- what is left of an ascending list is ascending
pub rest_ascends : {A : Type 0} (before : A → A → Type 0) (a : A) (xs : List A) → IsAscending before (a ∷ xs) → IsAscending before xs
rest_ascends before a [] order = tt
rest_ascends before a (x ∷ xs) order = order.1

-- so is a list with an item in front that comes before all
pub ascending_by : {A : Type 0} (before : A → A → Type 0) (a : A) (xs : List A) → ((b : A) → Contains xs b → before a b) → IsAscending before xs
    → IsAscending before (a ∷ xs)
ascending_by before a [] below order = tt
ascending_by before a (x ∷ xs) below order = (below x (listed_first x xs), order)

-- an item at a later place comes later
pub later_behind : {A : Type 0} (before : A → A → Type 0) (xs : List A) (i j : ℕ) (d : A) → IsStrictOrder before → IsAscending before xs
    → i < j → j < length xs → before (get_or xs i d) (get_or xs j d)
later_behind before [] i j d strict order less inside = absurd (omega (arith, inside))
later_behind before (x ∷ xs) i zero d strict order less inside = absurd (omega (arith, less))
later_behind before (x ∷ xs) zero (suc j) d strict order less inside =
    first_before before x xs strict order (get_or xs j d) (Contains-get_or xs j d (omega (arith, inside)))
later_behind before (x ∷ xs) (suc i) (suc j) d strict order less inside =
    later_behind before xs i j d strict (rest_ascends before x xs order) (omega (arith, less)) (omega (arith, inside))

-- so an item stands at one place
pub one_place : {A : Type 0} (before : A → A → Type 0) (xs : List A) (i j : ℕ) (d : A) → IsStrictOrder before → IsAscending before xs
    → i < length xs → j < length xs → get_or xs i d ≡ get_or xs j d → i ≡ j
one_place {A = A} before xs i j d strict order i_in j_in same = elim (cases_order i j) [
  | inl equal ↦ equal
  | inr (inl less) ↦ absurd (strict.never (get_or xs j d)
      (subst (λ (x : A). before x (get_or xs j d)) same (later_behind before xs i j d strict order less j_in)))
  | inr (inr more) ↦ absurd (strict.never (get_or xs j d)
      (subst (λ (x : A). before (get_or xs j d) x) same (later_behind before xs j i d strict order more i_in)))
]

-- an item of one list is the first of the other or behind it
first_same : {A : Type 0} (before : A → A → Type 0) (a b : A) (xs ys : List A) → IsStrictOrder before → IsAscending before (a ∷ xs)
    → IsAscending before (b ∷ ys) → Contains (b ∷ ys) a → Contains (a ∷ xs) b → a ≡ b
first_same before a b xs ys strict left right here there = elim (first_or_rest b a ys here) [
  | inl same ↦ sym same
  | inr behind ↦ elim (first_or_rest a b xs there) [
    | inl same ↦ same
    | inr other ↦ absurd (strict.never a
        (strict.trans a b a (first_before before a xs strict left b other) (first_before before b ys strict right a behind)))
  ]
]

-- an item behind the first of one list stands behind that of the other
rest_listed : {A : Type 0} (before : A → A → Type 0) (a b : A) (xs ys : List A) → IsStrictOrder before → a ≡ b → IsAscending before (a ∷ xs)
    → ((c : A) → Contains (a ∷ xs) c → Contains (b ∷ ys) c) → (c : A) → Contains xs c → Contains ys c
rest_listed {A = A} before a b xs ys strict same order listed c found =
    elim (first_or_rest b c ys (listed c (listed_behind a xs c found))) [
      | inl first ↦ absurd (strict.never c
          (subst (λ (y : A). before y c) (same ∙ first) (first_before before a xs strict order c found)))
      | inr rest ↦ rest
    ]

-- two ascending lists of the same items are one
pub ascending_same : {A : Type 0} (before : A → A → Type 0) (xs ys : List A) → IsStrictOrder before → IsAscending before xs → IsAscending before ys
    → ((c : A) → Contains xs c → Contains ys c) → ((c : A) → Contains ys c → Contains xs c) → xs ≡ ys
ascending_same before [] [] strict left right there here = refl
ascending_same before [] (b ∷ ys) strict left right there here =
    absurd (let none = here b (listed_first b ys) in omega (arith, none.1))
ascending_same before (a ∷ xs) [] strict left right there here =
    absurd (let none = there a (listed_first a xs) in omega (arith, none.1))
ascending_same before (a ∷ xs) (b ∷ ys) strict left right there here =
    let first = first_same before a b xs ys strict left right (there a (listed_first a xs)) (here b (listed_first b ys)) in
    let rest = ascending_same before xs ys strict (rest_ascends before a xs left) (rest_ascends before b ys right)
    (rest_listed before a b xs ys strict first left there) (rest_listed before b a ys xs strict (sym first) right here) in
    cc
