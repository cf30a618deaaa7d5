-- Walks over the steps of a graph, a machine or a code.
use Rattle.std.specs.Prelude.{◌≡◌, List, [], ◌∷◌}

-- The labels lead from here to there: each by a step that begins where the one before it ended. No labels stay here.
abbrev pub IsWalk : {S L : Type 0} → (S → L → S → Type 0) → S → List L → S → Type 0
IsWalk step here [] there = here ≡ there
IsWalk {S = S} step here (label ∷ labels) there =
    (next : S) × step here label next × IsWalk step next labels there
