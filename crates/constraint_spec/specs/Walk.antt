-- Walks of a constraint's graph, and the words that label them.
use Rattle.std.specs.Prelude.{ℕ, List, [], ◌∷◌, Contains}
use Rattle.symbol_base.specs.Walk.{IsWalk}
use Rattle.constraint_spec.specs.declared.GraphEdge.{GraphEdge}

-- a listed edge with this label leads from the one state to the other
abbrev pub HasEdge : List GraphEdge → ℕ → ℕ → ℕ → Type 0
HasEdge edges from label to = Contains edges (record { from = from; label = label; to = to })

-- the word is the labels of some walk along listed edges, from any state to any state
abbrev pub LabelsWalk : List GraphEdge → List ℕ → Type 0
LabelsWalk edges word = (from : ℕ) × (to : ℕ) × IsWalk (HasEdge edges) from word to

-- the states are one more than the word's symbols, and each two neighbours are joined by a listed
-- edge with the symbol between them: those that a walk with these labels passes
abbrev pub PassesStates : List GraphEdge → List ℕ → List ℕ → Type 0
PassesStates edges word [] = ⊥
PassesStates edges [] (state ∷ []) = Unit {0}
PassesStates edges (symbol ∷ word) (state ∷ []) = ⊥
PassesStates edges [] (state ∷ next ∷ states) = ⊥
PassesStates edges (symbol ∷ word) (state ∷ next ∷ states) =
    HasEdge edges state symbol next × PassesStates edges word (next ∷ states)
