-- The part of a graph with weights that some of its states are.
use Rattle.std.specs.Prelude.{◌≡◌, ℕ, ◌≤◌, Bool, List, map, slice_index}
use Rattle.label_graphs.specs.Graph.{EdgeData, IsGraph}
use Rattle.label_graphs.specs.Kept.{IsKept, marked_states}
use Rattle.label_graphs.specs.Power.{edge_count}

-- The marked states with the edges among them, their weights, and what they were.
pub record IsMarkedPart (rows : List (List EdgeData)) (weights : List ℕ) (marks : List Bool) (part : List (List EdgeData))
    (part_weights parents : List ℕ) : Type 0 where
  pub kept : IsKept rows marks part
  pub graph : IsGraph part
  pub fewer : edge_count part ≤ edge_count rows
  pub parents_are : parents ≡ marked_states marks
  pub weights_are : part_weights ≡ map (λ state. slice_index weights state) (marked_states marks)
