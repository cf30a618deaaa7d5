-- Laws of one round, as what lemmas on many rounds are given.
use Rattle.std.proofs.Common.{◌≡◌, ℕ, ◌<◌, ◌≤◌, List, [], length}
use Rattle.std.specs.Prelude.{slice_index, slice_index_or, All}
use Rattle.std.specs.List.{sum}
use Rattle.label_graphs.specs.Graph.{EdgeData, HasEdge}
use Rattle.label_graphs.specs.Power.{edge_count}
use Rattle.label_graphs.specs.Refinement.{DividesEdges, KeepsEdges, parents_of}
use Rattle.label_graphs.specs.Sink.{spread}
use Rattle.split_spec.specs.Weighted.{HasPositiveWeights, IsIrreducible, IsWeighted, WeightedData}
use Rattle.split_spec.specs.Round.{IsRound, IsSplit, SplitData}
use Rattle.split_spec.specs.Chain.{IsHeaviest}

-- at most one graph follows a graph by a round
abbrev pub OneRoundLaw : Type 0
OneRoundLaw = (n : ℕ) (g h k : WeightedData) (splits others : List SplitData) (parents fathers : List ℕ)
    → IsRound n g splits h parents → IsRound n g others k fathers
    → (splits ≡ others) × (h ≡ k) × (parents ≡ fathers)

-- a round keeps edges, and divides them among the parts
abbrev pub DividesLaw : Type 0
DividesLaw = (n : ℕ) (g h : WeightedData) (splits : List SplitData) (parents : List ℕ) → IsWeighted n g
    → IsRound n g splits h parents → KeepsEdges h.rows g.rows parents × DividesEdges h.rows g.rows parents

-- a round keeps weights and their sums
abbrev pub KeepsWeightsLaw : Type 0
KeepsWeightsLaw = (n : ℕ) (g h : WeightedData) (splits : List SplitData) (parents : List ℕ) → 1 ≤ n → IsWeighted n g
    → IsRound n g splits h parents
    → IsWeighted n h × (sum h.weights ≡ sum g.weights) × (spread h.rows h.weights ≡ spread g.rows g.weights)

-- a round keeps that each state leads to each
abbrev pub KeepsWaysLaw : Type 0
KeepsWaysLaw = (n : ℕ) (g h : WeightedData) (splits : List SplitData) (parents : List ℕ) → 1 ≤ n → IsWeighted n g → IsIrreducible g.rows
    → IsRound n g splits h parents → IsIrreducible h.rows

-- weights bound the numbers of states and of edges
abbrev pub NoLargerLaw : Type 0
NoLargerLaw = (g : WeightedData) → HasPositiveWeights g
    → (length g.rows ≤ sum g.weights) × (edge_count g.rows ≤ spread g.rows g.weights)

-- a state of the greatest weight with an edge to a lighter one is split
abbrev pub HeaviestSplitLaw : Type 0
HeaviestSplitLaw = (n : ℕ) (g : WeightedData) (state block to : ℕ) → 1 ≤ n → IsWeighted n g → IsHeaviest g.weights state
    → HasEdge g.rows state block to → slice_index g.weights to < slice_index g.weights state
    → (n < length (slice_index_or g.rows state []))
    × ((split : SplitData) × (split.state ≡ state) × IsSplit n g split)

-- what is refined twice keeps the edges
abbrev pub ComposedLaw : Type 0
ComposedLaw = (fine middle coarse : List (List EdgeData)) (parents grandparents : List ℕ) → length parents ≡ length fine
    → All (All (λ e. e.to < length fine)) fine → KeepsEdges fine middle parents → KeepsEdges middle coarse grandparents
    → KeepsEdges fine coarse (parents_of grandparents parents)
