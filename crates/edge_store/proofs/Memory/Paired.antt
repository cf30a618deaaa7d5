-- A list of links beside a list of as many items: the first of both and the last of both.
use mathlib.Core.Path.{◌≡◌, refl, ap}
use mathlib.Core.Logic.{◌≢◌}
use mathlib.Core.List.{List, [], ◌∷◌, ◌++◌}
use native.Mathlib.Omega.{arith}
use lib.ListN.{length}

pub record First {Y X : Type 0} (ls : List Y) (xs : List X) : Type 0 where
  pub link : Y
  pub links : List Y
  pub item : X
  pub items : List X
  pub links-are : ls ≡ link ∷ links
  pub items-are : xs ≡ item ∷ items
  pub paired : length links ≡ length items

pub first_of : {Y X : Type 0} (ls : List Y) (xs : List X) → length ls ≡ length xs → xs ≢ [] → First ls xs
first_of ls [] e p = absurd (p refl)
first_of [] (x ∷ xs) e p = absurd (omega arith)
first_of (l ∷ ls) (x ∷ xs) e p = record { link = l; links = ls; item = x; items = xs; links-are = refl; items-are = refl; paired = omega arith }

pub record Last {Y X : Type 0} (ls : List Y) (xs : List X) : Type 0 where
  pub link : Y
  pub links : List Y
  pub item : X
  pub items : List X
  pub links-are : ls ≡ links ++ link ∷ []
  pub items-are : xs ≡ items ++ item ∷ []
  pub paired : length links ≡ length items

last_behind : {Y X : Type 0} (l : Y) (ls : List Y) (x : X) (xs : List X) → length ls ≡ length xs → Last (l ∷ ls) (x ∷ xs)
last_behind l [] x [] e = record { link = l; links = []; item = x; items = []; links-are = refl; items-are = refl; paired = refl }
last_behind l [] x (z ∷ xs) e = absurd (omega arith)
last_behind l (k ∷ ls) x [] e = absurd (omega arith)
last_behind l (k ∷ ls) x (z ∷ xs) e =
    let on = last_behind k ls z xs (omega arith) in
    let still = on.paired in
    record { link = on.link; links = l ∷ on.links; item = on.item; items = x ∷ on.items; links-are = ap (λ ks. l ∷ ks) on.links-are; items-are = ap (λ ys. x ∷ ys) on.items-are; paired = omega arith }

pub last_of : {Y X : Type 0} (ls : List Y) (xs : List X) → length ls ≡ length xs → xs ≢ [] → Last ls xs
last_of ls [] e p = absurd (p refl)
last_of [] (x ∷ xs) e p = absurd (omega arith)
last_of (l ∷ ls) (x ∷ xs) e p = last_behind l ls x xs (omega arith)

-- the only one of both
pub only_of : {Y X : Type 0} (ls : List Y) (xs : List X) → length ls ≡ length xs → length xs ≡ 1 → (l : Y) × (x : X) × (ls ≡ l ∷ []) × (xs ≡ x ∷ [])
only_of (l ∷ []) (x ∷ []) e one = (l, x, refl, refl)
only_of ls [] e one = absurd (omega arith)
only_of [] (x ∷ xs) e one = absurd (omega arith)
only_of (l ∷ k ∷ ls) (x ∷ xs) e one = absurd (omega arith)
only_of (l ∷ []) (x ∷ z ∷ xs) e one = absurd (omega arith)
