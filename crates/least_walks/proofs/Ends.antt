-- What a search has found once it comes to a goal, or to its end.
use Rattle.std.proofs.Common.{◌≡◌, ℕ, ◌<◌, ◌≤◌, ◌⊎◌, inl, inr, ⊎_elim, List, [], ◌∷◌, ◌++◌, append_assoc, length, length-append, get_or, Bool, ap, sym, subst, arith}
use Rattle.std.proofs.lemmas.Bool.{cases_lt, cases_eq}
use Rattle.least_walks.specs.declared.breadth_first.Found.{Found}
use Rattle.symbol_base.specs.Walk.{IsWalk}
use Rattle.least_walks.specs.Graph.{Graph}
use Rattle.least_walks.specs.LeastWalk.{IsAtMost, IsGoal, IsLeastWalk}
use Rattle.least_walks.specs.inside.Found.{IsFoundBy, Searched, nothing, node_at, walk_to}
use Rattle.least_walks.proofs.Order.{before_longer, most_more, most_trans}

-- a node is found, or a node that is not done yet has a word that is at most the walk
abbrev Seen : List Found → List (List ℕ) → ℕ → ℕ → List ℕ → Type 0
Seen found walks at v labels =
    ((j : ℕ) × (j < at) × (node_at found j ≡ v) × IsAtMost (walk_to walks j) labels)
    ⊎ ((j : ℕ) × (at ≤ j) × (j < length found) × IsAtMost (walk_to walks j) labels)

-- the same behind the start
abbrev Behind : List Found → List (List ℕ) → ℕ → ℕ → List ℕ → Type 0
Behind found walks at v labels =
    ((j : ℕ) × (0 < j) × (j < at) × (node_at found j ≡ v) × IsAtMost (walk_to walks j) labels)
    ⊎ ((j : ℕ) × (at ≤ j) × (j < length found) × IsAtMost (walk_to walks j) labels)

behind_from :
    (found : List Found) (walks : List (List ℕ)) (at v : ℕ) (labels : List ℕ) → IsFoundBy found walks v labels
    → Behind found walks at v labels
behind_from found walks at v labels by =
    ⊎_elim (λ (before : by.0 < at). inl (by.0, by.1, before, by.3, by.4)) (λ (later : at ≤ by.0). inr (by.0, later, by.2, by.4))
    (cases_lt by.0 at)

seen_behind :
    (found : List Found) (walks : List (List ℕ)) (at v : ℕ) (labels : List ℕ) → Behind found walks at v labels
    → Seen found walks at v labels
seen_behind found walks at v labels (inl done) = inl (done.0, done.2, done.3, done.4)
seen_behind found walks at v labels (inr waits) = inr waits

longer_most : (labels : List ℕ) (label : ℕ) → IsAtMost labels (labels ++ label ∷ [])
longer_most labels label = inr (before_longer labels label)

seen_more :
    (g : Graph) (start : ℕ) (found : List Found) (marks : List Bool) (at u v label : ℕ) (labels : List ℕ)
    (searched : Searched g start found marks at) → g.arc u label v → Seen found searched.walks at u labels
    → Behind found searched.walks at v (labels ++ label ∷ [])
seen_more g start found marks at u v label labels searched arc (inl done) =
    let walks : List (List ℕ) = searched.walks in
    let by = searched.closed done.0 label v done.1 (subst (λ u. g.arc u label v) (sym done.2) arc) in
    behind_from found walks at v (labels ++ label ∷ []) (
      by.0,
      by.1,
      by.2,
      by.3,
      most_trans (walk_to walks by.0) (walk_to walks done.0 ++ label ∷ []) (labels ++ label ∷ []) by.4
          (most_more (walk_to walks done.0) labels label done.3),
    )
seen_more g start found marks at u v label labels searched arc (inr waits) =
    inr (
      waits.0,
      waits.1,
      waits.2,
      most_trans (walk_to searched.walks waits.0) labels (labels ++ label ∷ []) waits.3 (longer_most labels label),
    )

seen_walk :
    (g : Graph) (start : ℕ) (found : List Found) (marks : List Bool) (at : ℕ) (searched : Searched g start found marks at)
    (rest : List ℕ) (label u v : ℕ) (labels : List ℕ) → IsWalk g.arc u (label ∷ rest) v → Seen found searched.walks at u labels
    → Behind found searched.walks at v (labels ++ label ∷ rest)
seen_walk g start found marks at searched [] label u v labels walk seen =
    subst (λ v. Behind found searched.walks at v (labels ++ label ∷ [])) walk.2
    (seen_more g start found marks at u walk.0 label labels searched walk.1 seen)
seen_walk g start found marks at searched (next ∷ rest) label u v labels walk seen =
    subst (λ xs. Behind found searched.walks at v xs) (append_assoc labels (label ∷ []) (next ∷ rest))
    (seen_walk g start found marks at searched rest next walk.0 v (labels ++ label ∷ []) walk.2
    (seen_behind found searched.walks at walk.0 (labels ++ label ∷ [])
    (seen_more g start found marks at u walk.0 label labels searched walk.1 seen)))

seen_all :
    (g : Graph) (start : ℕ) (found : List Found) (marks : List Bool) (at : ℕ) (searched : Searched g start found marks at)
    (v label : ℕ) (others : List ℕ) → 0 < at → IsWalk g.arc start (label ∷ others) v
    → Behind found searched.walks at v (label ∷ others)
seen_all g start found marks at searched v label others begun walk =
    let walks : List (List ℕ) = searched.walks in
    let empty : walk_to walks 0 ≡ [] = searched.known.chain.first in
    let first : start ≡ node_at found 0 =
    subst (λ w. IsWalk g.arc start w (node_at found 0)) empty (searched.known.walk 0 searched.known.some) in
    seen_walk g start found marks at searched others label start v [] walk (inl (0, begun, sym first, inl empty))

-- the first found node behind the start that is a goal has the least walk to one
pub least_at :
    (g : Graph) (goals : List Bool) (start : ℕ) (found : List Found) (marks : List Bool) (at : ℕ)
    (searched : Searched g start found marks at) → 0 < at → at < length found
    → ((i : ℕ) → 0 < i → i < at → IsGoal goals (node_at found i) → ⊥) → IsGoal goals (node_at found at)
    → IsLeastWalk g goals start (walk_to searched.walks at)
least_at g goals start found marks at searched begun here none goal =
    let walks : List (List ℕ) = searched.walks in
    let label : ℕ = (get_or found at nothing).label in
    let before : List ℕ = walk_to walks (get_or found at nothing).from in
    record {
      some = omega (arith, ap length (searched.known.chain.more at begun here), length-append before (label ∷ []));
      goal = node_at found at;
      reached = goal;
      walk = searched.known.walk at here;
      least =
          λ first others v walk is_goal.
          let other : List ℕ = first ∷ others in
          ⊎_elim
          (λ (done : (j : ℕ) × (0 < j) × (j < at) × (node_at found j ≡ v) × IsAtMost (walk_to walks j) other).
          absurd (none done.0 done.1 done.2 (subst (λ v. IsGoal goals v) (sym done.3) is_goal)))
          (λ (waits : (j : ℕ) × (at ≤ j) × (j < length found) × IsAtMost (walk_to walks j) other).
          ⊎_elim
          (λ (is : at ≡ waits.0). subst (λ j. IsAtMost (walk_to walks j) other) (sym is) waits.3)
          (λ later.
          let less : at < waits.0 = omega (arith, later, waits.1) in
          most_trans (walk_to walks at) (walk_to walks waits.0) other (inr (searched.known.order at waits.0 less waits.2)) waits.3)
          (cases_eq at waits.0))
          (seen_all g start found marks at searched v first others begun walk);
    }

-- where all is done and no found node is a goal, no walk leads to one
pub none_at :
    (g : Graph) (goals : List Bool) (start : ℕ) (found : List Found) (marks : List Bool) (at : ℕ)
    → Searched g start found marks at → 0 < at → length found ≤ at
    → ((i : ℕ) → 0 < i → i < at → IsGoal goals (node_at found i) → ⊥) → (label : ℕ) (others : List ℕ) (v : ℕ)
    → IsWalk g.arc start (label ∷ others) v → IsGoal goals v → ⊥
none_at g goals start found marks at searched begun end none label others v walk is_goal =
    let walks : List (List ℕ) = searched.walks in
    ⊎_elim
    (λ (done : (j : ℕ) × (0 < j) × (j < at) × (node_at found j ≡ v) × IsAtMost (walk_to walks j) (label ∷ others)).
    none done.0 done.1 done.2 (subst (λ v. IsGoal goals v) (sym done.3) is_goal))
    (λ (waits : (j : ℕ) × (at ≤ j) × (j < length found) × IsAtMost (walk_to walks j) (label ∷ others)).
    absurd (omega (arith, waits.1, waits.2)))
    (seen_all g start found marks at searched v label others begun walk)
