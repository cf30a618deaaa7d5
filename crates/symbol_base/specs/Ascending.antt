-- Lists in an order.
use Rattle.std.specs.Prelude.{List, [], ◌∷◌}

-- each item stands before the next one, so none comes twice where the order is strict
abbrev pub IsAscending : {A : Type 0} → (A → A → Type 0) → List A → Type 0
IsAscending before [] = Unit {0}
IsAscending before (x ∷ []) = Unit {0}
IsAscending before (x ∷ y ∷ xs) = before x y × IsAscending before (y ∷ xs)
