-- Walks of a graph that a round makes: from each state one comes to all parts of each state.
use Rattle.std.proofs.Common.{◌≡◌, ℕ, ◌<◌, List, [], ◌∷◌, ◌++◌, length, get_or, refl, subst, arith}
use Rattle.std.specs.Prelude.{Contains}
use Rattle.std.proofs.lemmas.List.Elements.{Contains-get_or}
use Rattle.symbol_base.specs.Walk.{IsWalk}
use Rattle.symbol_base.proofs.Walks.{walk-more}
use Rattle.label_graphs.specs.Graph.{EdgeData, HasEdge}
use Rattle.label_graphs.specs.Reach.{IsReached}
use Rattle.split_spec.specs.Weighted.{IsIrreducible, IsWeighted, WeightedData}
use Rattle.split_spec.specs.Round.{SplitData, IsRound}
use Rattle.split_spec.proofs.EdgeEnds.{edge_to, target_inside}
use Rattle.split_spec.proofs.RoundParts.{parent_inside}
use Rattle.split_spec.proofs.RoundEdges.{split_inside, leads_to_all, round_divides}

-- all parts of the state are reached
abbrev AreReached : List (List EdgeData) → List ℕ → ℕ → ℕ → Type 0
AreReached rows parents from state = (part : ℕ) → part < length parents → get_or parents part 0 ≡ state → IsReached rows from part

module _ (n : ℕ) (g h : WeightedData) (splits : List SplitData) (parents : List ℕ) (weighted : IsWeighted n g) (round : IsRound n g splits h parents) where
  -- an edge leaves one part of its source, and leads to all of its target
  all_next : (from state block next : ℕ) → HasEdge g.rows state block next → AreReached h.rows parents from state → AreReached h.rows parents from next
  all_next from state block next edge reached part inside parent =
      let leaves = round_divides n g h splits parents weighted round state block next edge in
      let way = reached leaves.part leaves.inside leaves.parent in
      (way.0 ++ block ∷ [], walk-more (HasEdge h.rows) way.0 block from leaves.part part way.1 (leaves.all part inside parent))

  -- along a walk of the old graph
  all_along : (blocks : List ℕ) (from here there : ℕ) → IsWalk (HasEdge g.rows) here blocks there → AreReached h.rows parents from here
      → AreReached h.rows parents from there
  all_along [] from here there walk reached = subst (λ s. AreReached h.rows parents from s) walk reached
  all_along (block ∷ blocks) from here there walk reached =
      all_along blocks from walk.0 there walk.2 (all_next from here block walk.0 walk.1 reached)

  -- so does an edge of a part
  all_first : (from : ℕ) (e : EdgeData) → Contains (get_or h.rows from []) e → AreReached h.rows parents from (get_or parents e.to 0)
  all_first from e edge part inside parent =
      let leaves = ((round.edges from e.block e.to).0 edge).1 in
      let step = leads_to_all n g h splits parents weighted round from e.block (get_or parents e.to 0) part leaves inside parent in
      (e.block ∷ [], (part, step, refl))

  -- each state is reached from one with an edge
  pub parts_joined : IsIrreducible g.rows → (from to : ℕ) → from < length h.rows → to < length h.rows → 0 < length (get_or h.rows from []) → IsReached h.rows from to
  parts_joined joined from to from_in to_in some =
      let row = get_or h.rows from [] in
      let e : EdgeData = get_or row 0 (edge_to 0 0) in
      let edge = Contains-get_or row 0 (edge_to 0 0) some in
      let size = round.rows_size in
      let target = target_inside h.rows from e.block e.to round.graph edge in
      let within = parent_inside (length g.rows) splits parents round.parents_are (split_inside n g h splits parents weighted round) in
      let to_part : to < length parents = omega (arith, to_in, size) in
      let way = joined (get_or parents e.to 0) (get_or parents to 0) (within e.to (omega (arith, target, size))) (within to to_part) in
      all_along way.0 from (get_or parents e.to 0) (get_or parents to 0) way.1 (all_first from e edge) to to_part refl
