-- What a list holds: its first item, those behind it, and what is made of the items of another list.
use Rattle.std.proofs.Common.{◌≡◌, ℕ, ◌<◌, inl, inr, List, [], ◌∷◌, length, get_or, map, refl, ap, sym, ◌∙◌, subst, arith}
use Rattle.std.specs.Prelude.{Contains}
use Rattle.std.specs.List.{flat_map}
use Rattle.std.proofs.lemmas.List.{get_or_default, get_or-map, length-map}
use Rattle.std.proofs.lemmas.List.Elements.{Contains-append_left, Contains-append_right, Contains-append_cases}
use Rattle.symbol_base.proofs.AscendingNumbers.{first_or_rest}

-- the first item of a list is listed
pub listed_first : {X : Type 0} (x : X) (xs : List X) → Contains (x ∷ xs) x
listed_first x xs = (0, omega arith, refl)

-- and so is each one behind it
pub listed_behind : {X : Type 0} (x : X) (xs : List X) (z : X) → Contains xs z → Contains (x ∷ xs) z
listed_behind x xs z found = Contains-append_right (x ∷ []) xs z found

-- an item stands at a place, whatever is read past the end
pub listed_at : {X : Type 0} (xs : List X) (x d : X) → Contains xs x → (i : ℕ) × (i < length xs) × (get_or xs i d ≡ x)
listed_at xs x d found = (found.0, found.1, get_or_default xs found.0 d x found.1 ∙ found.2)

-- where each item of a list is made another
pub listed_map : {X Y : Type 0} (f : X → Y) (xs : List X) (y : Y) → Contains (map f xs) y → (x : X) × Contains xs x × (f x ≡ y)
listed_map f [] y found = absurd (omega (arith, found.1))
listed_map f (x ∷ xs) y found = elim (first_or_rest (f x) y (map f xs) found) [
  | inl same ↦ (x, listed_first x xs, same)
  | inr behind ↦ (let rest = listed_map f xs y behind in (rest.0, listed_behind x xs rest.0 rest.1, rest.2))
]

-- each item has one that is made of it
pub map_listed : {X Y : Type 0} (f : X → Y) (xs : List X) (x : X) → Contains xs x → Contains (map f xs) (f x)
map_listed f xs x found =
    let size = length-map xs f in
    (found.0, omega (arith, found.1, size), get_or-map f xs found.0 x (f x) found.1 ∙ ap f found.2)

-- where each item of a list is made a list
pub listed_flat : {X Y : Type 0} (F : X → List Y) (xs : List X) (y : Y) → Contains (flat_map F xs) y → (x : X) × Contains xs x × Contains (F x) y
listed_flat F [] y found = absurd (omega (arith, found.1))
listed_flat F (x ∷ xs) y found = elim (Contains-append_cases (F x) (flat_map F xs) y found) [
  | inl here ↦ (x, listed_first x xs, here)
  | inr there ↦ (let rest = listed_flat F xs y there in (rest.0, listed_behind x xs rest.0 rest.1, rest.2))
]

-- what is in the list made of an item is in the joined list
pub flat_listed : {X Y : Type 0} (F : X → List Y) (xs : List X) (x : X) (y : Y) → Contains xs x → Contains (F x) y → Contains (flat_map F xs) y
flat_listed F [] x y found there = absurd (omega (arith, found.1))
flat_listed {X = X} F (z ∷ xs) x y found there = elim (first_or_rest z x xs found) [
  | inl same ↦ Contains-append_left (F z) (flat_map F xs) y (subst (λ (w : X). Contains (F w) y) (sym same) there)
  | inr rest ↦ Contains-append_right (F z) (flat_map F xs) y (flat_listed F xs x y rest there)
]
