-- The items that are marked, and the others. Each item has the mark at its place.
use Rattle.std.specs.Prelude.{Bool, not, List, map}
use Rattle.std.specs.List.{filter, zip}

-- the items whose mark is true, in order
unfoldable pub marked : {X : Type 0} → List Bool → List X → List X
marked marks items = map (λ p. p.1) (filter (λ p. p.0) (zip marks items))

-- the items whose mark is false, in order
unfoldable pub unmarked : {X : Type 0} → List Bool → List X → List X
unmarked marks items = map (λ p. p.1) (filter (λ p. not p.0) (zip marks items))
