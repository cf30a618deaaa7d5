-- Chains of rounds: from a sink to a graph in which no state of the greatest weight leads to a lighter one.
use Rattle.std.specs.Prelude.{◌≡◌, ℕ, ◌<◌, ◌≤◌, ◌↔◌, List, [], ◌∷◌, length, map, slice_index, All, Contains}
use Rattle.std.specs.List.{range_with_len, sum}
use Rattle.symbol_base.specs.Ascending.{IsAscending}
use Rattle.label_graphs.specs.Graph.{EdgeData, HasEdge, IsGraph}
use Rattle.label_graphs.specs.Refinement.{parents_of}
use Rattle.label_graphs.specs.Sink.{AreEdgesAmong}
use Rattle.split_spec.specs.Weighted.{WeightedData}
use Rattle.split_spec.specs.Round.{SplitData, IsRound}

-- no state weighs more
pub record IsHeaviest (weights : List ℕ) (state : ℕ) : Type 0 where
  pub inside : state < length weights
  pub most : All (λ weight. weight ≤ slice_index weights state) weights

-- a state of the greatest weight has an edge to a lighter one
pub record NeedsRound (g : WeightedData) : Type 0 where
  pub from : ℕ
  pub block : ℕ
  pub to : ℕ
  pub heaviest : IsHeaviest g.weights from
  pub edge : HasEdge g.rows from block to
  pub lighter : slice_index g.weights to < slice_index g.weights from

-- The rounds lead from the first graph to the second one, each made of a graph that needs it; the parents are the
-- states of the first graph of which those of the second are parts.
abbrev pub RoundsLead : ℕ → WeightedData → List (List SplitData) → WeightedData → List ℕ → Type 0
RoundsLead n g [] h parents = (h ≡ g) × (parents ≡ range_with_len 0 (length g.rows))
RoundsLead n g (splits ∷ rounds) h parents =
    (next : WeightedData) × (first rest : List ℕ) × NeedsRound g × IsRound n g splits next first
    × RoundsLead n next rounds h rest × (parents ≡ parents_of first rest)

-- how many splits the rounds make
abbrev pub split_count : List (List SplitData) → ℕ
split_count rounds = sum (map (λ splits. length splits) rounds)

pub record ChainData : Type 0 where
  pub sink : WeightedData
  pub rounds : List (List SplitData)
  pub kept : List ℕ
  pub last : List (List EdgeData)
  pub parents : List ℕ

-- Rounds are made of the sink until none is needed. Then the states of the greatest weight are kept, with the edges
-- among them: they are the last graph, numbered anew in ascending order, and each has its parent in the sink.
pub record IsChain (n : ℕ) (sink : WeightedData) (chain : ChainData) : Type 0 where
  pub of : chain.sink ≡ sink
  pub end : WeightedData
  pub end_parents : List ℕ
  pub rounds : RoundsLead n sink chain.rounds end end_parents
  pub done : NeedsRound end → ⊥
  pub order : IsAscending (λ s t. s < t) chain.kept
  pub heaviest : (state : ℕ) → Contains chain.kept state ↔ IsHeaviest end.weights state
  pub graph : IsGraph chain.last
  pub size : length chain.last ≡ length chain.kept
  pub edges : AreEdgesAmong end.rows chain.kept chain.last
  pub parents : chain.parents ≡ parents_of end_parents chain.kept
