-- The order of edges: its test, and that it is strict and total.
use Rattle.std.proofs.Common.{◌≡◌, ◌≢◌, true, false, ◌⊎◌, inl, inr, sym, ◌∙◌, arith, true≢false}
use Rattle.std.proofs.lemmas.Bool.{cases_order}
use Rattle.std.proofs.lemmas.Bool.Decides.{nat_tests}
use Rattle.constraint_spec.specs.declared.GraphEdge.{GraphEdge}
use Rattle.constraint_spec.specs.Ranges.{IsEdgeBefore, edge_before}

-- the test holds exactly where the order does
pub edge_before_from : (e f : GraphEdge) → edge_before e f ≡ true → IsEdgeBefore e f
edge_before_from e f h = grind (arith, nat_tests)

pub edge_before_to : (e f : GraphEdge) → IsEdgeBefore e f → edge_before e f ≡ true
edge_before_to e f h = grind (arith, nat_tests)

pub edge_not_before_itself : (e : GraphEdge) → IsEdgeBefore e e → ⊥
edge_not_before_itself e (inl h) = omega arith
edge_not_before_itself e (inr (s, inl h)) = omega arith
edge_not_before_itself e (inr (s, inr h)) = let k = h.1 in omega arith

pub edges_before : (e f g : GraphEdge) → IsEdgeBefore e f → IsEdgeBefore f g → IsEdgeBefore e g
edges_before e f g h k = grind arith

edge_from_numbers : (e f : GraphEdge) → e.from ≡ f.from → e.label ≡ f.label → e.to ≡ f.to → e ≡ f
edge_from_numbers e f from label to = λ i. record { from = from i; label = label i; to = to i }

pub edge_before_or_same : (e f : GraphEdge) → IsEdgeBefore e f ⊎ ((e ≡ f) ⊎ IsEdgeBefore f e)
edge_before_or_same e f = elim (cases_order e.from f.from) [
  | inl from ↦ elim (cases_order e.label f.label) [
    | inl label ↦ elim (cases_order e.to f.to) [
      | inl to ↦ inr (inl (edge_from_numbers e f from label to))
      | inr (inl less) ↦ inl (inr (from, inr (label, less)))
      | inr (inr more) ↦ inr (inr (inr (sym from, inr (sym label, more))))
    ]
    | inr (inl less) ↦ inl (inr (from, inl less))
    | inr (inr more) ↦ inr (inr (inr (sym from, inl more)))
  ]
  | inr (inl less) ↦ inl (inl less)
  | inr (inr more) ↦ inr (inr (inl more))
]

pub edge_behind : (e f : GraphEdge) → edge_before e f ≡ false → e ≢ f → IsEdgeBefore f e
edge_behind e f test other = elim (edge_before_or_same e f) [
  | inl before ↦ absurd (true≢false (sym (edge_before_to e f before) ∙ test))
  | inr (inl same) ↦ absurd (other same)
  | inr (inr after) ↦ after
]
