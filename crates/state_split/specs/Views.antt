-- What the values of state splitting stand for.
use Rattle.std.specs.Prelude.{ℕ, List, map}
use Rattle.label_graphs.specs.declared.graph.Edge.{Edge}
use Rattle.label_graphs.specs.Graph.{EdgeData}
use Rattle.label_graphs.specs.Views.{edge_data}
use Rattle.split_spec.specs.Round.{SplitData}
use Rattle.split_spec.specs.Weighted.{WeightedData}

abbrev pub edges_data : List (Edge ℕ) → List EdgeData
edges_data edges = map (edge_data (λ name. name)) edges

-- all splits that are made at once
pub record RoundData : Type 0 where
  pub splits : List SplitData

abbrev pub rounds_data : List RoundData → List (List SplitData)
rounds_data rounds = map (λ round. round.splits) rounds

-- a graph with weights
abbrev pub weighted : List (List EdgeData) → List ℕ → WeightedData
weighted rows weights = record { rows = rows; weights = weights }
