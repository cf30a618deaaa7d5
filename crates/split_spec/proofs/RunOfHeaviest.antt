-- A heaviest state with an edge to a lighter one has a run that weighs less than itself.
use Rattle.std.proofs.Common.{◌≡◌, ℕ, ◌<◌, ◌≤◌, [], length, get_or, refl, arith}
use Rattle.std.specs.Prelude.{slice_index, slice_index_or}
use Rattle.std.proofs.Math.Nat.{lt_of_mul-lt-mul_right}
use Rattle.label_graphs.specs.Graph.{HasEdge}
use Rattle.split_spec.specs.Weighted.{IsWeighted, WeightedData}
use Rattle.split_spec.specs.Round.{IsSplit, SplitData}
use Rattle.split_spec.specs.Chain.{IsHeaviest}
use Rattle.split_spec.proofs.EdgeEnds.{edge_to, target_inside}
use Rattle.split_spec.proofs.OrderedRows.{ordered_row}
use Rattle.split_spec.proofs.RunPlaces.{a_long_row_has_a_run, run_is_light}
use Rattle.split_spec.proofs.SumsBounded.{AreAtMost, weights_below}

-- the targets of a row of a graph weigh no more than its heaviest state
pub targets_most : (n : ℕ) (g : WeightedData) (state from : ℕ) → IsWeighted n g → IsHeaviest g.weights state
    → AreAtMost g.weights (slice_index g.weights state) (slice_index_or g.rows from [])
targets_most n g state from known heaviest e found =
    let there = target_inside g.rows from e.block e.to known.weights.graph found in
    heaviest.most e.to 0 (let size = known.weights.size in omega (arith, there, size))

-- such a state has more than n edges, and is split
pub heaviest_states_are_split : (n : ℕ) (g : WeightedData) (state block to : ℕ) → 1 ≤ n → IsWeighted n g → IsHeaviest g.weights state
    → HasEdge g.rows state block to → slice_index g.weights to < slice_index g.weights state
    → (n < length (slice_index_or g.rows state [])) × ((split : SplitData) × (split.state ≡ state) × IsSplit n g split)
heaviest_states_are_split n g state block to some known heaviest edge lighter =
    let row = get_or g.rows state [] in
    let m = slice_index g.weights state in
    let light = edge_to block to in
    let inside : state < length g.rows = (let here = heaviest.inside in let size = known.weights.size in omega (arith, here, size)) in
    let most = targets_most n g state state known heaviest in
    let low = weights_below g.weights m row light most edge lighter in
    let enough = known.inequality state heaviest.inside in
    let long : n < length row = lt_of_mul-lt-mul_right m (omega (arith, low, enough)) in
    let found = a_long_row_has_a_run n g.weights row (ordered_row g.weights row (known.weights.graph.order state [] inside)) some (omega (arith, long)) in (
      long,
      (
        record { state = state; run = found.run; y = found.y },
        refl,
        record {
          inside = inside;
          run = found.is;
          lighter = run_is_light n g.weights m row found.run found.y light found.is most edge lighter;
        },
      ),
    )
