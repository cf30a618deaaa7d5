-- The order of a row's edges, by which a row is told by its edges.
use Rattle.std.proofs.Common.{◌≡◌, ℕ, ◌<◌, List, [], ◌∷◌, length, get_or, inl, inr, refl, sym, ◌∙◌, subst, arith}
use Rattle.std.specs.Prelude.{Contains}
use Rattle.std.proofs.lemmas.List.{same_lists, get_or_default}
use Rattle.std.proofs.lemmas.List.Elements.{Contains-append_right}
use Rattle.symbol_base.specs.Ascending.{IsAscending}
use Rattle.symbol_base.proofs.AscendingNumbers.{first_or_rest}
use Rattle.label_graphs.specs.Graph.{EdgeData, IsEdgeBefore, HasEdge, IsGraph}

pub edge_trans : (e f g : EdgeData) → IsEdgeBefore e f → IsEdgeBefore f g → IsEdgeBefore e g
edge_trans e f g (inl a) (inl b) = inl (omega (arith, a, b))
edge_trans e f g (inl a) (inr b) = inl (omega (arith, a, b.0))
edge_trans e f g (inr a) (inl b) = inl (omega (arith, a.0, b))
edge_trans e f g (inr a) (inr b) = inr (a.0 ∙ b.0, omega (arith, a.1, b.1))

-- the first edge of a row comes before each other one
pub first_before : (e : EdgeData) (row : List EdgeData) → IsAscending IsEdgeBefore (e ∷ row) → (f : EdgeData) → Contains row f → IsEdgeBefore e f
first_before e [] order f found = absurd (omega (arith, found.1))
first_before e (g ∷ row) order f found = elim (first_or_rest g f row found) [
  | inl same ↦ subst (λ (x : EdgeData). IsEdgeBefore e x) same order.0
  | inr rest ↦ edge_trans e g f order.0 (first_before g row order.1 f rest)
]

pub rest_ascends : (e : EdgeData) (row : List EdgeData) → IsAscending IsEdgeBefore (e ∷ row) → IsAscending IsEdgeBefore row
rest_ascends e [] order = tt
rest_ascends e (f ∷ row) order = order.1

pub ascending_by : (e : EdgeData) (row : List EdgeData) → ((f : EdgeData) → Contains row f → IsEdgeBefore e f) → IsAscending IsEdgeBefore row
    → IsAscending IsEdgeBefore (e ∷ row)
ascending_by e [] before order = tt
ascending_by e (f ∷ row) before order = (before f (0, omega arith, refl), order)

none_before_itself : (e : EdgeData) → IsEdgeBefore e e → ⊥
none_before_itself e (inl less) = absurd (omega (arith, less))
none_before_itself e (inr both) = absurd (omega (arith, both.1))

-- an edge of one row is the first of the other or behind it
first_same : (e f : EdgeData) (es fs : List EdgeData) → IsAscending IsEdgeBefore (e ∷ es) → IsAscending IsEdgeBefore (f ∷ fs)
    → Contains (f ∷ fs) e → Contains (e ∷ es) f → e ≡ f
first_same e f es fs left right here there = elim (first_or_rest f e fs here) [
  | inl same ↦ sym same
  | inr behind ↦ elim (first_or_rest e f es there) [
    | inl same ↦ same
    | inr other ↦ absurd (none_before_itself e (edge_trans e f e (first_before e es left f other) (first_before f fs right e behind)))
  ]
]

-- an edge behind the first of one row stands behind that of the other
rest_listed : (e f : EdgeData) (es fs : List EdgeData) → e ≡ f → IsAscending IsEdgeBefore (e ∷ es)
    → ((g : EdgeData) → Contains (e ∷ es) g → Contains (f ∷ fs) g) → (g : EdgeData) → Contains es g → Contains fs g
rest_listed e f es fs same order listed g found =
    elim (first_or_rest f g fs (listed g (Contains-append_right (e ∷ []) es g found))) [
      | inl first ↦ absurd (
          none_before_itself g (subst (λ (x : EdgeData). IsEdgeBefore x g) (same ∙ first) (first_before e es order g found)))
      | inr rest ↦ rest
    ]

-- two ascending rows of the same edges are one
pub ascending_same : (es fs : List EdgeData) → IsAscending IsEdgeBefore es → IsAscending IsEdgeBefore fs
    → ((g : EdgeData) → Contains es g → Contains fs g) → ((g : EdgeData) → Contains fs g → Contains es g) → es ≡ fs
ascending_same [] [] left right there here = refl
ascending_same [] (f ∷ fs) left right there here =
    absurd (let none = here f (0, omega arith, refl) in omega (arith, none.1))
ascending_same (e ∷ es) [] left right there here =
    absurd (let none = there e (0, omega arith, refl) in omega (arith, none.1))
ascending_same (e ∷ es) (f ∷ fs) left right there here =
    let first = first_same e f es fs left right (there e (0, omega arith, refl)) (here f (0, omega arith, refl)) in
    let rest = ascending_same es fs (rest_ascends e es left) (rest_ascends f fs right)
    (rest_listed e f es fs first left there) (rest_listed f e fs es (sym first) right here) in
    cc

-- graphs of as many states with the same edges are one
pub same_graphs : (rows others : List (List EdgeData)) → IsGraph rows → IsGraph others → length rows ≡ length others
    → ((from block to : ℕ) → HasEdge rows from block to → HasEdge others from block to)
    → ((from block to : ℕ) → HasEdge others from block to → HasEdge rows from block to) → rows ≡ others
same_graphs rows others left right size there here = same_lists rows others size (λ k d inside.
    let within : k < length others = omega (arith, inside, size) in
    get_or_default rows k d [] inside
    ∙ ascending_same (get_or rows k []) (get_or others k []) (left.order k [] inside) (right.order k [] within)
    (λ g found. there k g.block g.to found) (λ g found. here k g.block g.to found)
    ∙ get_or_default others k [] d within)
