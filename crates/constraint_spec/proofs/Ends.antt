-- The states at which walks can end go on with one more symbol.
use Rattle.std.proofs.Common.{◌≡◌, ◌↔◌, ℕ, ◌<◌, List, [], ◌∷◌, ◌++◌, true, refl, ap, sym, ◌∙◌, subst, arith}
use Rattle.std.specs.Prelude.{◌&&◌, nat_eq, filter}
use Rattle.std.specs.List.{Contains, list_any, range_with_len}
use Rattle.std.proofs.lemmas.Bool.{eqb-true, eq-eqb}
use Rattle.std.proofs.lemmas.Bool.Decides.{Decides-and, Decides-eqb}
use Rattle.std.proofs.lemmas.List.Elements.{All-contains}
use Rattle.std.proofs.lemmas.List.Folds.{Any-from_list_any, list_any-from_Any}
use Rattle.symbol_base.specs.Walk.{IsWalk}
use Rattle.symbol_base.proofs.Walks.{walk-more, walk-last}
use Rattle.constraint_spec.specs.declared.GraphEdge.{GraphEdge}
use Rattle.constraint_spec.specs.Walk.{HasEdge}
use Rattle.constraint_spec.specs.Constraint.{ConstraintData}
use Rattle.constraint_spec.specs.Ranges.{IsConstraint, IsEdgeOf}
use Rattle.constraint_spec.specs.RawStateOf.{is_led}
use Rattle.symbol_base.proofs.AscendingNumbers.{Contains-range, filter_keeps, filter_kept}

-- the test whether a number is listed
listed_tested : (xs : List ℕ) (x : ℕ) → (list_any (nat_eq x) xs ≡ true) ↔ Contains xs x
listed_tested xs x = (
  (λ yes.
      let found = Any-from_list_any (nat_eq x) xs yes in
      let same : x ≡ found.1 = eqb-true x found.1 found.4 in
      subst (λ n. Contains xs n) (sym same) (found.0, found.2, found.3)),
  (λ found. list_any-from_Any (nat_eq x) xs (found.0, x, found.1, found.2, eq-eqb x x refl)),
)

-- the test whether an edge leads from a list of states to a state
pub led_tested :
    (edges : List GraphEdge) (from : List ℕ) (symbol to : ℕ)
    → (is_led edges from symbol to ≡ true) ↔ ((state : ℕ) × Contains from state × HasEdge edges state symbol to)
led_tested edges from symbol to =
    let test = λ (e : GraphEdge). nat_eq e.label symbol && (nat_eq e.to to && list_any (nat_eq e.from) from) in
    let tested = λ (e : GraphEdge). Decides-and (nat_eq e.label symbol) (nat_eq e.to to && list_any (nat_eq e.from) from)
    (Decides-eqb e.label symbol)
    (Decides-and (nat_eq e.to to) (list_any (nat_eq e.from) from) (Decides-eqb e.to to) (listed_tested from e.from)) in (
      (λ yes.
          let found = Any-from_list_any test edges yes in
          let parts = (tested found.1).0 found.4 in
          let same : found.1 ≡ record { from = found.1.from; label = symbol; to = to } =
          ap (λ label. record { from = found.1.from; label = label; to = found.1.to }) parts.0
          ∙ ap (λ to. record { from = found.1.from; label = symbol; to = to }) parts.1.0 in
          (found.1.from, parts.1.1, subst (λ (e : GraphEdge). Contains edges e) same (found.0, found.2, found.3))),
      (λ way.
          let edge : GraphEdge = record { from = way.0; label = symbol; to = to } in
          list_any-from_Any test edges (way.2.0, edge, way.2.1, way.2.2, (tested edge).1 (refl, (refl, way.1)))),
    )

-- the states to which an edge leads from some states, of those below a count
pub Contains-led :
    (edges : List GraphEdge) (count : ℕ) (from : List ℕ) (symbol to : ℕ)
    → Contains (filter (is_led edges from symbol) (range_with_len 0 count)) to
    ↔ ((to < count) × (state : ℕ) × Contains from state × HasEdge edges state symbol to)
Contains-led edges count from symbol to = (
  (λ found.
      let parts = filter_keeps (is_led edges from symbol) (range_with_len 0 count) to found in
      let way = (led_tested edges from symbol to).0 parts.1 in
      let below : to < count = omega (arith, ((Contains-range 0 count to).0 parts.0).1) in
      (below, way.0, way.1, way.2)),
  (λ way. filter_kept (is_led edges from symbol) (range_with_len 0 count) to
      ((Contains-range 0 count to).1 (omega arith, omega (arith, way.0)))
      ((led_tested edges from symbol to).1 (way.1, way.2, way.3))),
)

-- each listed edge joins states of the graph
pub edge_inside :
    (c : ConstraintData) (from label to : ℕ) → IsConstraint c → HasEdge c.edges from label to → (from < c.states) × (to < c.states)
edge_inside c from label to ranges edge =
    let range = All-contains (IsEdgeOf c) c.edges (record { from = from; label = label; to = to }) ranges.edges edge in
    (range.0, range.2)

-- with no symbol walks end at each state
pub ends_first :
    (c : ConstraintData) (state : ℕ)
    → Contains (range_with_len 0 c.states) state ↔ ((state < c.states) × (from : ℕ) × IsWalk (HasEdge c.edges) from [] state)
ends_first c state = (
  (λ found. (omega (arith, ((Contains-range 0 c.states state).0 found).1), state, refl)),
  (λ walk. (Contains-range 0 c.states state).1 (omega arith, omega (arith, walk.0))),
)

-- with one more symbol they end where an edge with it leads from where they ended
pub ends_more :
    (c : ConstraintData) (w ends : List ℕ) (symbol : ℕ) → IsConstraint c
    → ((state : ℕ) → Contains ends state ↔ ((state < c.states) × (from : ℕ) × IsWalk (HasEdge c.edges) from w state))
    → (state : ℕ) → Contains (filter (is_led c.edges ends symbol) (range_with_len 0 c.states)) state
    ↔ ((state < c.states) × (from : ℕ) × IsWalk (HasEdge c.edges) from (w ++ symbol ∷ []) state)
ends_more c w ends symbol ranges known state = (
  (λ found.
      let way = (Contains-led c.edges c.states ends symbol state).0 found in
      let walk = (known way.1).0 way.2 in
      (way.0, walk.1, walk-more (HasEdge c.edges) w symbol walk.1 way.1 state walk.2 way.3)),
  (λ walk.
      let last = walk-last (HasEdge c.edges) w symbol walk.1 state walk.2 in
      let inside = (edge_inside c last.0 symbol state ranges last.2).0 in
      (Contains-led c.edges c.states ends symbol state).1 (walk.0, last.0, (known last.0).1 (inside, walk.1, last.1), last.2)),
)
