-- Each round makes a state at least, and there are no more states than the weights add up to.
use Rattle.std.proofs.Common.{ℕ, ◌+◌, ◌<◌, ◌≤◌, List, [], ◌∷◌, length, map, arith}
use Rattle.std.specs.List.{sum}
use Rattle.split_spec.specs.Weighted.{IsWeighted, WeightedData}
use Rattle.split_spec.specs.Round.{SplitData, IsRound}
use Rattle.split_spec.specs.Chain.{NeedsRound, RoundsLead, split_count}
use Rattle.split_spec.proofs.Given.{KeepsWeightsLaw, NoLargerLaw, HeaviestSplitLaw}
use Rattle.label_graphs.proofs.Sums.{sum-cons}
use Rattle.split_spec.proofs.RoundParts.{parents_size}

-- a graph that needs a round has a state that it splits
one_is_split : HeaviestSplitLaw → (n : ℕ) (g h : WeightedData) (splits : List SplitData) (parents : List ℕ) → 1 ≤ n → IsWeighted n g → NeedsRound g
    → IsRound n g splits h parents → 0 < length splits
one_is_split splitting n g h splits parents some weighted need round =
    let found = (splitting n g need.from need.block need.to some weighted need.heaviest need.edge need.lighter).1 in
    let listed = (round.exact found.0).1 found.2 in
    omega (arith, listed.1)

-- the rounds and the states at their beginning are no more than the weights add up to
pub few_rounds : KeepsWeightsLaw → HeaviestSplitLaw → NoLargerLaw → (n : ℕ) (g h : WeightedData) (rounds : List (List SplitData)) (parents : List ℕ)
    → 1 ≤ n → IsWeighted n g → RoundsLead n g rounds h parents → length rounds + length g.rows ≤ sum g.weights
few_rounds keeps splitting small n g h [] parents some weighted lead = let most = (small g weighted.weights).0 in omega (arith, most)
few_rounds keeps splitting small n g h (splits ∷ rounds) parents some weighted lead =
    let next = lead.0 in
    let one = keeps n g next splits lead.1 some weighted lead.4 in
    let rest = few_rounds keeps splitting small n next h rounds lead.2 some one.0 lead.5 in
    let made = lead.4.rows_size in
    let count = parents_size (length g.rows) splits lead.1 lead.4.parents_are in
    let new = one_is_split splitting n g next splits lead.1 some weighted lead.3 lead.4 in
    omega (arith, rest, made, count, new, one.1)

-- so are the splits
pub few_splits : KeepsWeightsLaw → NoLargerLaw → (n : ℕ) (g h : WeightedData) (rounds : List (List SplitData)) (parents : List ℕ)
    → 1 ≤ n → IsWeighted n g → RoundsLead n g rounds h parents → split_count rounds + length g.rows ≤ sum g.weights
few_splits keeps small n g h [] parents some weighted lead = let most = (small g weighted.weights).0 in omega (arith, most)
few_splits keeps small n g h (splits ∷ rounds) parents some weighted lead =
    let next = lead.0 in
    let one = keeps n g next splits lead.1 some weighted lead.4 in
    let rest = few_splits keeps small n next h rounds lead.2 some one.0 lead.5 in
    let made = lead.4.rows_size in
    let size = parents_size (length g.rows) splits lead.1 lead.4.parents_are in
    let count = sum-cons (length splits) (map (λ (list : List SplitData). length list) rounds) in
    omega (arith, rest, made, size, count, one.1)
