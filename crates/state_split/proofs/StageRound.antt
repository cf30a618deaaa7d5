-- One round: what its splits give, and that the graph, the weights and the parents of the parts are those that it makes.
use Rattle.std.proofs.Common.{◌≡◌, ◌↔◌, ℕ, ◌+◌, ◌<◌, List, length, get_or, ap, sym, subst, arith}
use Rattle.std.specs.Prelude.{All, Contains}
use Rattle.std.proofs.lemmas.List.{get_or_default}
use Rattle.std.proofs.lemmas.List.Elements.{Contains-get_or}
use Rattle.std.proofs.lemmas.Option.{slice_get_within}
use Rattle.label_graphs.specs.Graph.{EdgeData, HasEdge, IsGraph}
use Rattle.split_spec.specs.Weighted.{WeightedData}
use Rattle.split_spec.specs.Round.{SplitData, IsRound, Leaves, whole, in_run, in_rest}
use Rattle.split_spec.proofs.EdgeEnds.{source_inside}
use Rattle.split_spec.proofs.RoundParts.{parents_size, parent_inside}
use Rattle.state_split.specs.inside.Parts.{AreSplitsOf, ArePartWeights, part_parents}
use Rattle.state_split.specs.inside.Rows.{AreRowsOfParts, parent_edge}
use Rattle.state_split.specs.inside.Splits.{AreSplitsBelow}

-- all splits of a graph
abbrev pub AreSplits : ℕ → WeightedData → List SplitData → Type 0
AreSplits n g splits = AreSplitsBelow n g (length g.rows) splits

-- they are of its states, in order
pub splits_of_states : (n : ℕ) (g : WeightedData) (splits : List SplitData) → AreSplits n g splits → AreSplitsOf (length g.rows) splits
splits_of_states n g splits known = record {
  order = known.order;
  inside = λ k d inside. ((known.exact (get_or splits k d)).0 (Contains-get_or splits k d inside)).0;
}

-- an edge leaves a part, of which there are as many as states and splits
leaves_inside : (rows : List (List EdgeData)) (splits : List SplitData) (part : ℕ) (e : EdgeData) → ((split : SplitData) → Contains splits split → split.state < length rows)
    → Leaves rows splits part e → part < length rows + length splits
leaves_inside rows splits part e inside (whole low alone found) = omega (arith, low)
leaves_inside rows splits part e inside (in_run split listed same found) = (let low = inside split listed in omega (arith, low, same))
leaves_inside rows splits part e inside (in_rest place split at same found other) = (let low = slice_get_within splits place split at in omega (arith, low, same))

-- the parts of a graph, with their edges, their weights and their parents
pub record AreParts (g : WeightedData) (splits : List SplitData) (h : WeightedData) (parents : List ℕ) : Type 0 where
  pub graph : IsGraph h.rows
  pub rows : AreRowsOfParts g.rows splits h.rows (length g.rows + length splits)
  pub weights : ArePartWeights g.weights splits h.weights
  pub parents_are : parents ≡ part_parents (length g.rows) splits

-- their edges leave the parts of the graph's edges, and lead to all parts of their targets
edges_of_parts : (g : WeightedData) (splits : List SplitData) (h : WeightedData) (parents : List ℕ)
    → ((split : SplitData) → Contains splits split → split.state < length g.rows) → AreParts g splits h parents → (from block to : ℕ)
    → HasEdge h.rows from block to ↔ (to < length parents) × Leaves g.rows splits from (record { block = block; to = get_or parents to 0 })
edges_of_parts g splits h parents inside parts from block to =
    let count = length g.rows + length splits in
    let e : EdgeData = record { block = block; to = to } in
    let size = parts.rows.size in
    let parents_count = parents_size (length g.rows) splits parents parts.parents_are in
    let Left : List ℕ → Type 0 = λ ps. Leaves g.rows splits from (parent_edge ps e) in (
      (λ edge.
          let low = source_inside h.rows from block to edge in
          let found = ((parts.rows.each from (omega (arith, low, size))).exact e).0 edge in
          let to_in = found.0 in
          (omega (arith, to_in, parents_count), subst Left (sym parts.parents_are) found.1)),
      (λ known.
          let low = leaves_inside g.rows splits from (parent_edge parents e) inside known.1 in
          let to_in = known.0 in
          ((parts.rows.each from low).exact e).1 (omega (arith, to_in, parents_count), subst Left parts.parents_are known.1)),
    )

-- so a round makes them
pub parts_are_round : (n : ℕ) (g : WeightedData) (splits : List SplitData) (h : WeightedData) (parents : List ℕ) → length g.weights ≡ length g.rows
    → AreSplits n g splits → AreParts g splits h parents → IsRound n g splits h parents
parts_are_round n g splits h parents size known parts =
    let inside : (split : SplitData) → Contains splits split → split.state < length g.rows = λ split found. ((known.exact split).0 found).0 in
    let count = parents_size (length g.rows) splits parents parts.parents_are in
    let rows = parts.rows.size in
    let weights = parts.weights.size in
    record {
      order = known.order;
      exact = λ split. ((λ found. ((known.exact split).0 found).1), (λ is. (known.exact split).1 (is.inside, is)));
      parents_are = parts.parents_are;
      graph = parts.graph;
      rows_size = omega (arith, rows, count);
      weights_size = omega (arith, weights, count, size);
      whole = λ state low unsplit. parts.weights.whole state (omega (arith, low, size)) unsplit;
      run = parts.weights.run;
      rest = λ place split at. (let rest = parts.weights.rest place split at in let same = ap (λ m. get_or h.weights (m + place) 0) size in omega (arith, rest, same));
      edges = edges_of_parts g splits h parents inside parts;
    }

-- the parents that a round gives are states of the graph
pub parents_inside : (n : ℕ) (g : WeightedData) (splits : List SplitData) (h : WeightedData) (parents : List ℕ) → IsRound n g splits h parents
    → All (λ parent. parent < length g.rows) parents
parents_inside n g splits h parents round = λ k d inside.
    let low = parent_inside (length g.rows) splits parents round.parents_are (λ split found. ((round.exact split).0 found).inside) k inside in
    let same = get_or_default parents k d 0 inside in
    omega (arith, low, same)

-- what is asked of splits, of a list of the same splits
pub splits_asked : (n m : ℕ) (g : WeightedData) (splits same : List SplitData) → AreSplits n g splits → same ≡ splits → m ≡ length g.rows → AreSplitsOf m same
splits_asked n m g splits same known is size =
    subst (λ (ss : List SplitData). AreSplitsOf m ss) (sym is) (subst (λ k. AreSplitsOf k splits) (sym size) (splits_of_states n g splits known))
