-- A cover reads the words of its constraint, symbol by symbol.
use Rattle.std.proofs.Common.{◌≡◌, ℕ, ◌<◌, ◌≤◌, ◌⊎◌, inl, inr, ⊎_elim, zero, suc, List, [], ◌∷◌, length, get_or, cond, true, false, eqb, refl, ap, sym, ◌∙◌, subst, arith}
use Rattle.std.specs.Prelude.{Contains}
use Rattle.std.proofs.lemmas.Bool.{cases_lt, cases_Bool, eqb-true, eqb-false, cond-true, cond-false}
use Rattle.std.proofs.lemmas.List.{get_or_past}
use Rattle.constraint_spec.specs.Constraint.{ConstraintData, IsWordOf}
use Rattle.label_graphs.specs.Graph.{EdgeData, HasEdge}
use Rattle.label_graphs.specs.Cover.{IsCoverOf, IsReadFrom}
use Rattle.code_check.specs.inside.CoverMoves.{target_of, move_on}
use Rattle.code_check.specs.inside.ReadGraph.{after, IsReader}

abbrev edge_to : ℕ → ℕ → EdgeData
edge_to symbol to = record { block = symbol; to = to }

contains_more : (edge : EdgeData) (edges : List EdgeData) (e : EdgeData) → Contains edges e → Contains (edge ∷ edges) e
contains_more edge edges e found = (suc found.0, omega (arith, found.1), found.2)

same_edge : (edge : EdgeData) (symbol : ℕ) → edge.block ≡ symbol → edge ≡ edge_to symbol edge.to
same_edge edge symbol block = ap (λ b. edge_to b edge.to) block

-- an edge that stands in the list is the first or one of the others
contains_cases : (edge : EdgeData) (edges : List EdgeData) (e : EdgeData) → Contains (edge ∷ edges) e → (edge ≡ e) ⊎ Contains edges e
contains_cases edge edges e (zero, below, is) = inl is
contains_cases edge edges e (suc k, below, is) = inr (k, omega (arith, below), is)

-- the target is that of an edge, or there is no edge with the symbol
target_told :
    (edges : List EdgeData) (symbol none : ℕ)
    → Contains edges (edge_to symbol (target_of edges symbol none))
    ⊎ ((target_of edges symbol none ≡ none) × ((to : ℕ) → Contains edges (edge_to symbol to) → ⊥))
target_told [] symbol none = inr (refl, λ to found. absurd (let below = found.1 in omega (arith, below)))
target_told (edge ∷ edges) symbol none =
    let rest = target_of edges symbol none in
    ⊎_elim
    (λ (yes : eqb edge.block symbol ≡ true).
    let block : edge.block ≡ symbol = eqb-true edge.block symbol yes in
    let to : cond (eqb edge.block symbol) edge.to rest ≡ edge.to = cond-true (eqb edge.block symbol) edge.to rest yes in
    inl (0, omega arith, same_edge edge symbol block ∙ ap (edge_to symbol) (sym to)))
    (λ (no_match : eqb edge.block symbol ≡ false).
    let unlike : edge.block ≡ symbol → ⊥ = eqb-false edge.block symbol no_match in
    let to : cond (eqb edge.block symbol) edge.to rest ≡ rest = cond-false (eqb edge.block symbol) edge.to rest no_match in
    ⊎_elim
    (λ (found : Contains edges (edge_to symbol rest)).
    inl (subst (λ t. Contains (edge ∷ edges) (edge_to symbol t)) (sym to) (contains_more edge edges (edge_to symbol rest) found)))
    (λ (none_found : (rest ≡ none) × ((to : ℕ) → Contains edges (edge_to symbol to) → ⊥)).
    inr (
      to ∙ none_found.0,
      λ t found.
          ⊎_elim (λ (same : edge ≡ edge_to symbol t). unlike (ap (λ (e : EdgeData). e.block) same)) (λ other. none_found.1 t other)
          (contains_cases edge edges (edge_to symbol t) found),
    ))
    (target_told edges symbol none))
    (cases_Bool (eqb edge.block symbol))

-- each symbol that leads on does so along an edge
edge_of_move :
    (rows : List (List EdgeData)) (state symbol : ℕ) → move_on rows state symbol < length rows
    → HasEdge rows state symbol (move_on rows state symbol)
edge_of_move rows state symbol less =
    ⊎_elim (λ (found : HasEdge rows state symbol (move_on rows state symbol)). found)
    (λ (none : (move_on rows state symbol ≡ length rows) × ((to : ℕ) → HasEdge rows state symbol to → ⊥)). absurd (omega (arith, none.0, less)))
    (target_told (get_or rows state []) symbol (length rows))

-- each edge is a move
move_of_edge :
    (W : List ℕ → Type 0) (rows : List (List EdgeData)) (state symbol to : ℕ) → IsCoverOf W rows
    → HasEdge rows state symbol to → move_on rows state symbol ≡ to
move_of_edge W rows state symbol to cover edge =
    ⊎_elim
    (λ (found : HasEdge rows state symbol (move_on rows state symbol)).
    cover.single state symbol (move_on rows state symbol) to found edge)
    (λ (none : (move_on rows state symbol ≡ length rows) × ((to : ℕ) → HasEdge rows state symbol to → ⊥)). absurd (none.1 to edge))
    (target_told (get_or rows state []) symbol (length rows))

-- from "no word" nothing leads back
stays_outside : (rows : List (List EdgeData)) (word : List ℕ) → after (move_on rows) (length rows) word ≡ length rows
stays_outside rows [] = refl
stays_outside rows (symbol ∷ word) =
    let none : move_on rows (length rows) symbol ≡ length rows =
    ap (λ (edges : List EdgeData). target_of edges symbol (length rows)) (get_or_past rows (length rows) [] (omega arith)) in
    ap (λ s. after (move_on rows) s word) none ∙ stays_outside rows word

move_inside :
    (W : List ℕ → Type 0) (rows : List (List EdgeData)) → IsCoverOf W rows → (state symbol : ℕ) → move_on rows state symbol ≤ length rows
move_inside W rows cover state symbol =
    ⊎_elim
    (λ (found : HasEdge rows state symbol (move_on rows state symbol)).
    let inside : move_on rows state symbol < length rows = (cover.inside state symbol (move_on rows state symbol) found).1 in omega (arith, inside))
    (λ (none : (move_on rows state symbol ≡ length rows) × ((to : ℕ) → HasEdge rows state symbol to → ⊥)). omega (arith, none.0))
    (target_told (get_or rows state []) symbol (length rows))

-- what can be read leads to a state of the cover
read_inside :
    (W : List ℕ → Type 0) (rows : List (List EdgeData)) (word : List ℕ) (state : ℕ) → IsCoverOf W rows → state < length rows
    → IsReadFrom (HasEdge rows) state word → after (move_on rows) state word < length rows
read_inside W rows [] state cover inside read = inside
read_inside W rows (symbol ∷ word) state cover inside read =
    let walk = read.1 in
    let move : move_on rows state symbol ≡ walk.0 = move_of_edge W rows state symbol walk.0 cover walk.1 in
    let next : walk.0 < length rows = (cover.inside state symbol walk.0 walk.1).1 in
    subst (λ s. after (move_on rows) s word < length rows) (sym move)
    (read_inside W rows word walk.0 cover next (read.0, walk.2))

-- what leads to a state of the cover can be read
inside_read :
    (W : List ℕ → Type 0) (rows : List (List EdgeData)) (word : List ℕ) (state : ℕ) → IsCoverOf W rows → state < length rows
    → after (move_on rows) state word < length rows → IsReadFrom (HasEdge rows) state word
inside_read W rows [] state cover inside less = (state, refl)
inside_read W rows (symbol ∷ word) state cover inside less =
    let next : ℕ = move_on rows state symbol in
    ⊎_elim
    (λ (on : next < length rows).
    let rest = inside_read W rows word next cover on less in
    (rest.0, (next, edge_of_move rows state symbol on, rest.1)))
    (λ (off : length rows ≤ next).
    let is : next ≡ length rows = (let most = move_inside W rows cover state symbol in omega (arith, off, most)) in
    let out : after (move_on rows) next word ≡ length rows = ap (λ s. after (move_on rows) s word) is ∙ stays_outside rows word in
    absurd (omega (arith, out, less)))
    (cases_lt next (length rows))

-- a cover is a machine that reads the words
pub cover_reads :
    (c : ConstraintData) (rows : List (List EdgeData)) → IsCoverOf (IsWordOf c) rows
    → IsReader c (length rows) (move_on rows)
cover_reads c rows cover = record {
  some = cover.some;
  inside = λ state symbol most. move_inside (IsWordOf c) rows cover state symbol;
  words = λ word. (
    (λ is. read_inside (IsWordOf c) rows word 0 cover cover.some ((cover.words word).0 is)),
    (λ less. (cover.words word).1 (inside_read (IsWordOf c) rows word 0 cover cover.some less)),
  );
}
