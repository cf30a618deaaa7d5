-- The edges of a graph that a round makes: each part of a state has its share of the state's edges.
use Rattle.std.proofs.Common.{◌≡◌, ℕ, ◌+◌, ◌<◌, inl, inr, List, [], ◌++◌, length, get_or, refl, ap, sym, ◌∙◌, subst, arith}
use Rattle.std.specs.Prelude.{Contains, Some, slice_get}
use Rattle.std.proofs.lemmas.Option.{slice_get_within, same_Some}
use Rattle.label_graphs.specs.Graph.{EdgeData, HasEdge}
use Rattle.label_graphs.specs.Refinement.{KeepsEdges, LeavesOnePart, DividesEdges}
use Rattle.split_spec.specs.Weighted.{IsWeighted, WeightedData}
use Rattle.split_spec.specs.Round.{SplitData, IsWhole, Leaves, whole, in_run, in_rest, IsRound}
use Rattle.split_spec.proofs.EdgeEnds.{edge_to, source_inside}
use Rattle.split_spec.proofs.RoundParts.{AreInOrder, split_place, split_listed, one_split, split_or_whole, whole_unsplit}
use Rattle.split_spec.proofs.RoundParts.{parents_size, parent_low, parent_high, part_of_whole, part_of_split}
use Rattle.split_spec.proofs.RoundHalves.{AreHalves, halves}

-- What leaves a part, where the split states are among those of the rows.
module _ (rows : List (List EdgeData)) (splits : List SplitData) (inside : (split : SplitData) → Contains splits split → split.state < length rows) where
  -- a whole state: all of its edges
  pub leaves_whole : (state : ℕ) (e : EdgeData) → IsWhole splits state → state < length rows → Leaves rows splits state e
      → Contains (get_or rows state []) e
  leaves_whole state e unsplit low (whole in_rows is_whole edge) = edge
  leaves_whole state e unsplit low (in_run split found same edge) = absurd (whole_unsplit splits state split unsplit found same)
  leaves_whole state e unsplit low (in_rest place split at is edge fails) = absurd (omega (arith, is, low))

  -- the part with the run: its edges
  pub leaves_run : (split : SplitData) (e : EdgeData) → AreInOrder splits → Contains splits split → Leaves rows splits split.state e
      → Contains split.run e
  leaves_run split e order listed (whole in_rows is_whole edge) = absurd (whole_unsplit splits split.state split is_whole listed refl)
  leaves_run split e order listed (in_run other found same edge) =
      subst (λ (s : SplitData). Contains s.run e) (one_split splits other split order found listed same) edge
  leaves_run split e order listed (in_rest place other at is edge fails) =
      absurd (let low = inside split listed in omega (arith, is, low))

  -- the part with the rest: those that the run lacks
  pub leaves_rest : (place : ℕ) (split : SplitData) (e : EdgeData) → slice_get splits place ≡ Some split → Leaves rows splits (length rows + place) e
      → Contains (get_or rows split.state []) e × (Contains split.run e → ⊥)
  leaves_rest place split e at (whole in_rows is_whole edge) = absurd (omega (arith, in_rows))
  leaves_rest place split e at (in_run other found same edge) = absurd (let low = inside other found in omega (arith, low, same))
  leaves_rest place split e at (in_rest other_place other there is edge fails) =
      let places : other_place ≡ place = omega (arith, is) in
      let same : other ≡ split = same_Some other split (sym there ∙ ap (λ k. slice_get splits k) places ∙ at) in
      subst (λ (s : SplitData). Contains (get_or rows s.state []) e × (Contains s.run e → ⊥)) same (edge, fails)

-- What a round makes of the edges.
module _ (n : ℕ) (g h : WeightedData) (splits : List SplitData) (parents : List ℕ) (weighted : IsWeighted n g) (round : IsRound n g splits h parents) where
  -- a split state is one of the graph
  pub split_inside : (split : SplitData) → Contains splits split → split.state < length g.rows
  split_inside split listed = ((round.exact split).0 listed).inside

  -- the edges of a split state that its run lacks
  pub others_of : (split : SplitData) → Contains splits split → List EdgeData
  others_of split listed = let run = ((round.exact split).0 listed).run in run.before ++ run.behind

  -- a run and those others are its row
  pub split_halves : (split : SplitData) (listed : Contains splits split)
      → AreHalves g.weights (get_or g.rows split.state []) split.run (others_of split listed)
  unfolding others_of
  split_halves split listed =
      let known = (round.exact split).0 listed in
      halves g.weights (get_or g.rows split.state []) known.run.before split.run known.run.behind
      (weighted.weights.graph.order split.state [] known.inside) known.run.order

  -- an edge that leaves a part is one of its parent
  leaves_kept : (part : ℕ) (e : EdgeData) → Leaves g.rows splits part e → Contains (get_or g.rows (get_or parents part 0) []) e
  leaves_kept part e (whole low is_whole edge) =
      subst (λ s. Contains (get_or g.rows s []) e) (sym (parent_low (length g.rows) splits parents round.parents_are part low)) edge
  leaves_kept part e (in_run split found same edge) =
      let low : part < length g.rows = subst (λ s. s < length g.rows) same (split_inside split found) in
      let own : split.state ≡ get_or parents part 0 = same ∙ sym (parent_low (length g.rows) splits parents round.parents_are part low) in
      subst (λ s. Contains (get_or g.rows s []) e) own ((split_halves split found).of_run e edge)
  leaves_kept part e (in_rest place split at is edge fails) =
      let own : split.state ≡ get_or parents part 0 =
      sym (ap (λ k. get_or parents k 0) is ∙ parent_high (length g.rows) splits parents round.parents_are place split at) in
      subst (λ s. Contains (get_or g.rows s []) e) own edge

  -- each edge of the new graph is one of the old graph
  pub round_keeps : KeepsEdges h.rows g.rows parents
  round_keeps from block to edge =
      leaves_kept from (edge_to block (get_or parents to 0)) ((round.edges from block to).0 edge).1

  -- what an edge leaves is one of the new states
  pub leaves_inside : (part : ℕ) (e : EdgeData) → Leaves g.rows splits part e → part < length parents
  leaves_inside part e (whole low is_whole edge) =
      let size = parents_size (length g.rows) splits parents round.parents_are in omega (arith, size, low)
  leaves_inside part e (in_run split found same edge) =
      let size = parents_size (length g.rows) splits parents round.parents_are in
      let low = split_inside split found in
      omega (arith, size, low, same)
  leaves_inside part e (in_rest place split at is edge fails) =
      let size = parents_size (length g.rows) splits parents round.parents_are in
      let low = slice_get_within splits place split at in
      omega (arith, size, low, is)

  -- an edge that leaves a part leads from there to each part of its target
  pub leads_to_all : (part block to target : ℕ) → Leaves g.rows splits part (edge_to block to) → target < length parents
      → get_or parents target 0 ≡ to → HasEdge h.rows part block target
  leads_to_all part block to target leaves target_in same =
      (round.edges part block target).1
      (target_in, subst (λ t. Leaves g.rows splits part (edge_to block t)) (sym same) leaves)

  -- where it leaves no other part
  one_part_by : (from block to part : ℕ) → get_or parents part 0 ≡ from → Leaves g.rows splits part (edge_to block to)
      → ((other : ℕ) → other < length parents → get_or parents other 0 ≡ from → Leaves g.rows splits other (edge_to block to) → other ≡ part)
      → LeavesOnePart h.rows parents from block to
  one_part_by from block to part parent leaves alone = record {
    part = part;
    inside = leaves_inside part (edge_to block to) leaves;
    parent = parent;
    all = λ target target_in same. leads_to_all part block to target leaves target_in same;
    only = λ other target of_from of_to edge.
        let told : Leaves g.rows splits other (edge_to block to) =
        subst (λ t. Leaves g.rows splits other (edge_to block t)) of_to ((round.edges other block target).0 edge).1 in
        alone other (leaves_inside other (edge_to block to) told) of_from told;
  }

  -- an edge of a whole state leaves that state
  whole_divides : (from block to : ℕ) → IsWhole splits from → HasEdge g.rows from block to → LeavesOnePart h.rows parents from block to
  whole_divides from block to unsplit edge =
      let low = source_inside g.rows from block to edge in
      one_part_by from block to from (parent_low (length g.rows) splits parents round.parents_are from low) (whole low unsplit edge)
      (λ other other_in parent told. part_of_whole (length g.rows) splits parents round.parents_are from other unsplit other_in parent)

  -- an edge of a run leaves the part with the run
  run_divides : (place : ℕ) (split : SplitData) (block to : ℕ) → slice_get splits place ≡ Some split → Contains split.run (edge_to block to)
      → LeavesOnePart h.rows parents split.state block to
  run_divides place split block to at edge =
      let listed = split_listed splits place split at in
      one_part_by split.state block to split.state
      (parent_low (length g.rows) splits parents round.parents_are split.state (split_inside split listed)) (in_run split listed refl edge)
      (λ other other_in parent told.
      elim (part_of_split (length g.rows) splits parents round.parents_are place split other round.order at other_in parent) [
        | inl same ↦ same
        | inr high ↦ absurd (
            (leaves_rest g.rows splits split_inside place split (edge_to block to) at
            (subst (λ k. Leaves g.rows splits k (edge_to block to)) high told)).1 edge)
      ])

  -- another edge of a split state leaves the part with the rest
  rest_divides : (place : ℕ) (split : SplitData) (block to : ℕ) → slice_get splits place ≡ Some split
      → HasEdge g.rows split.state block to → (Contains split.run (edge_to block to) → ⊥) → LeavesOnePart h.rows parents split.state block to
  rest_divides place split block to at edge fails =
      one_part_by split.state block to (length g.rows + place) (parent_high (length g.rows) splits parents round.parents_are place split at)
      (in_rest place split at refl edge fails)
      (λ other other_in parent told.
      elim (part_of_split (length g.rows) splits parents round.parents_are place split other round.order at other_in parent) [
        | inl low ↦ absurd (fails
            (leaves_run g.rows splits split_inside split (edge_to block to) round.order (split_listed splits place split at)
            (subst (λ k. Leaves g.rows splits k (edge_to block to)) low told)))
        | inr same ↦ same
      ])

  -- so each edge of a split state leaves one part
  split_divides : (split : SplitData) (block to : ℕ) → Contains splits split → HasEdge g.rows split.state block to
      → LeavesOnePart h.rows parents split.state block to
  split_divides split block to listed edge =
      let place = split_place splits split listed in
      let parted = split_halves split listed in
      elim (parted.either (edge_to block to) edge) [
        | inl run ↦ run_divides place.0 split block to place.1 run
        | inr other ↦ rest_divides place.0 split block to place.1 edge (λ run. parted.apart (edge_to block to) run other)
      ]

  -- each edge of the old graph leaves one part, and leads to all parts of its target
  pub round_divides : DividesEdges h.rows g.rows parents
  round_divides from block to edge = elim (split_or_whole splits from) [
    | inr unsplit ↦ whole_divides from block to unsplit edge
    | inl found ↦ subst (λ s. LeavesOnePart h.rows parents s block to) found.2
        (split_divides found.0 block to found.1 (subst (λ s. HasEdge g.rows s block to) (sym found.2) edge))
  ]

-- both for any round
pub edges_divided : (n : ℕ) (g h : WeightedData) (splits : List SplitData) (parents : List ℕ) → IsWeighted n g → IsRound n g splits h parents
    → KeepsEdges h.rows g.rows parents × DividesEdges h.rows g.rows parents
edges_divided n g h splits parents weighted round = (
  round_keeps n g h splits parents weighted round,
  round_divides n g h splits parents weighted round,
)
