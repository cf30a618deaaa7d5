-- What a search has found: nodes in the order of their least walks, each with the one that it was found from.
use Rattle.std.specs.Prelude.{◌≡◌, ℕ, ◌+◌, ◌<◌, ◌≤◌, ◌⊎◌, List, [], ◌∷◌, ◌++◌, length, get_or, Bool, true, false, count_by, set}
use Rattle.symbol_base.specs.Word.{IsBefore}
use Rattle.least_walks.specs.declared.Arc.{Arc}
use Rattle.least_walks.specs.declared.breadth_first.Found.{Found}
use Rattle.symbol_base.specs.Walk.{IsWalk}
use Rattle.least_walks.specs.Graph.{Graph, AreArcsOf, no_arc}
use Rattle.least_walks.specs.LeastWalk.{IsAtMost}

abbrev pub nothing : Found
nothing = record { node = 0; from = 0; label = 0 }

abbrev pub node_at : List Found → ℕ → ℕ
node_at found i = (get_or found i nothing).node

abbrev pub walk_to : List (List ℕ) → ℕ → List ℕ
walk_to walks i = get_or walks i []

-- the walk of each found node is that of the node before it with one label more; the first walk is empty
pub record IsChain (found : List Found) (walks : List (List ℕ)) : Type 0 where
  pub first : walk_to walks 0 ≡ []
  pub back : (i : ℕ) → 0 < i → i < length found → (get_or found i nothing).from < i
  pub more : (i : ℕ) → 0 < i → i < length found
      → walk_to walks i ≡ walk_to walks (get_or found i nothing).from ++ (get_or found i nothing).label ∷ []

-- what is known of the found nodes, all of them found from nodes before the bound
pub record Known (g : Graph) (start : ℕ) (found : List Found) (marks : List Bool) (bound : ℕ) (walks : List (List ℕ)) : Type 0 where
  pub chain : IsChain found walks
  pub count : length walks ≡ length found
  pub some : 0 < length found
  pub sized : length marks ≡ g.nodes
  pub counted : count_by (λ b. b) marks + 1 ≡ length found
  pub walk : (i : ℕ) → i < length found → IsWalk g.arc start (walk_to walks i) (node_at found i)
  pub inside : (i : ℕ) → i < length found → node_at found i < g.nodes
  pub early : (i : ℕ) → 0 < i → i < length found → (get_or found i nothing).from < bound
  pub order : (i j : ℕ) → i < j → j < length found → IsBefore (walk_to walks i) (walk_to walks j)
  pub marked : (v : ℕ) → get_or marks v false ≡ true → (j : ℕ) × (0 < j) × (j < length found) × (node_at found j ≡ v)

-- the node is found behind the start, by labels at most these
abbrev pub IsFoundBy : List Found → List (List ℕ) → ℕ → List ℕ → Type 0
IsFoundBy found walks v labels =
    (j : ℕ) × (0 < j) × (j < length found) × (node_at found j ≡ v) × IsAtMost (walk_to walks j) labels

-- all that an arc leads to from the first found nodes is found
abbrev pub IsClosed : Graph → List Found → List (List ℕ) → ℕ → Type 0
IsClosed g found walks at =
    (i label v : ℕ) → i < at → g.arc (node_at found i) label v → IsFoundBy found walks v (walk_to walks i ++ label ∷ [])

pub record Searched (g : Graph) (start : ℕ) (found : List Found) (marks : List Bool) (at : ℕ) : Type 0 where
  pub walks : List (List ℕ)
  pub known : Known g start found marks at walks
  pub closed : IsClosed g found walks at

-- the first k arcs of the node at this place, whose arcs these are, are done too
pub record Half (g : Graph) (start : ℕ) (arcs : List Arc) (found : List Found) (marks : List Bool) (at k : ℕ) : Type 0 where
  pub walks : List (List ℕ)
  pub known : Known g start found marks (at + 1) walks
  pub closed : IsClosed g found walks at
  pub here : at < length found
  pub are : AreArcsOf g (node_at found at) arcs
  pub part : (m : ℕ) → m < k → m < length arcs
      → IsFoundBy found walks (get_or arcs m no_arc).to (walk_to walks at ++ (get_or arcs m no_arc).label ∷ [])
  pub ahead : (j m : ℕ) → j < length found → k ≤ m → m < length arcs
      → IsBefore (walk_to walks j) (walk_to walks at ++ (get_or arcs m no_arc).label ∷ [])

-- an arc of the found node at this place is done: what it leads to was found before, or is found now
abbrev pub IsTaken : Arc → ℕ → List Found → List Bool → List Found → List Bool → Type 0
IsTaken arc at found marks found' marks' =
    ((get_or marks arc.to false ≡ true) × (found' ≡ found) × (marks' ≡ marks))
    ⊎ ((get_or marks arc.to false ≡ false)
    × (found' ≡ found ++ record { node = arc.to; from = at; label = arc.label } ∷ []) × (marks' ≡ set marks arc.to true))

-- the front of what was found stays
abbrev pub KeepsFront : List Found → List Found → Type 0
KeepsFront found found' = (i : ℕ) → i < length found → (i < length found') × (node_at found' i ≡ node_at found i)
