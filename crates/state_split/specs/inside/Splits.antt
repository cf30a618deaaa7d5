-- The splits of a round, found state by state.
use Rattle.std.specs.Prelude.{◌≡◌, ◌↔◌, ℕ, ◌<◌, List, length, Contains}
use Rattle.symbol_base.specs.Ascending.{IsAscending}
use Rattle.label_graphs.specs.Graph.{EdgeData}
use Rattle.split_spec.specs.Weighted.{WeightedData}
use Rattle.split_spec.specs.Run.{IsRun}
use Rattle.split_spec.specs.Round.{SplitData, IsSplit}

-- a split of this state
abbrev pub IsSplitAt : ℕ → WeightedData → ℕ → SplitData → Type 0
IsSplitAt n g state split = (split.state ≡ state) × IsSplit n g split

-- all splits of the states below a bound, in ascending order
pub record AreSplitsBelow (n : ℕ) (g : WeightedData) (bound : ℕ) (splits : List SplitData) : Type 0 where
  pub order : IsAscending (λ a b. a.state < b.state) splits
  pub exact : (split : SplitData) → Contains splits split ↔ (split.state < bound) × IsSplit n g split

-- the run of some row
abbrev pub HasRun : List ℕ → List EdgeData → SplitData → Type 0
HasRun x row split = (n : ℕ) × IsRun n x row split.run split.y

-- all splits of a graph with weights, for some n
abbrev pub HasSplits : WeightedData → List SplitData → Type 0
HasSplits g splits = (n : ℕ) × AreSplitsBelow n g (length g.rows) splits
