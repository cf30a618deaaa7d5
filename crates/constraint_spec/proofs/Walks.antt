-- Walks of a graph: their parts, and the states that they pass.
use Rattle.std.proofs.Common.{◌↔◌, ℕ, List, [], ◌∷◌, ◌++◌, refl, subst}
use Rattle.symbol_base.specs.Walk.{IsWalk}
use Rattle.symbol_base.proofs.Walks.{walk-part}
use Rattle.constraint_spec.specs.declared.GraphEdge.{GraphEdge}
use Rattle.constraint_spec.specs.Word.{IsFactor}
use Rattle.constraint_spec.specs.Walk.{HasEdge, LabelsWalk, PassesStates}

-- a part of a walk's labels labels a walk
pub LabelsWalk-factor :
    (edges : List GraphEdge) (v w : List ℕ) → IsFactor v w → LabelsWalk edges w → LabelsWalk edges v
LabelsWalk-factor edges v w part walk =
    let step = HasEdge edges in
    let whole = subst (λ word. IsWalk step walk.0 word walk.1) part.joined walk.2 in
    let end = walk-part step part.before (v ++ part.after) walk.0 walk.1 whole in
    let middle = walk-part step v part.after end.0 walk.1 end.2 in
    (end.0, middle.0, middle.1)

-- the states that a walk passes, the first one given
states_of :
    (edges : List GraphEdge) (from : ℕ) (word : List ℕ) (to : ℕ) → IsWalk (HasEdge edges) from word to
    → (states : List ℕ) × PassesStates edges word (from ∷ states)
states_of edges from [] to walk = ([], tt)
states_of edges from (symbol ∷ word) to walk =
    let rest = states_of edges walk.0 word to walk.2 in (walk.0 ∷ rest.0, (walk.1, rest.1))

-- the walk that passes the states
walk_of :
    (edges : List GraphEdge) (word : List ℕ) (from : ℕ) (states : List ℕ) → PassesStates edges word (from ∷ states)
    → (to : ℕ) × IsWalk (HasEdge edges) from word to
walk_of edges [] from [] passed = (from, refl)
walk_of edges [] from (next ∷ states) passed = absurd passed
walk_of edges (symbol ∷ word) from [] passed = absurd passed
walk_of edges (symbol ∷ word) from (next ∷ states) passed =
    let rest = walk_of edges word next states passed.1 in (rest.0, (next, passed.0, rest.1))

labels_by :
    (edges : List GraphEdge) (word states : List ℕ) → PassesStates edges word states → LabelsWalk edges word
labels_by edges word [] passed = absurd passed
labels_by edges word (from ∷ states) passed = let walk = walk_of edges word from states passed in (from, walk.0, walk.1)

pub labels_by_states :
    (edges : List GraphEdge) (word : List ℕ)
    → LabelsWalk edges word ↔ ((states : List ℕ) × PassesStates edges word states)
labels_by_states edges word = (
  λ walk. let states = states_of edges walk.0 word walk.1 walk.2 in (walk.0 ∷ states.0, states.1),
  λ states. labels_by edges word states.0 states.1,
)
