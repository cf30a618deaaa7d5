-- Some states of a graph, with the edges among them, as a graph of its own.
use Rattle.std.proofs.Common.{◌≡◌, ℕ, ◌<◌, List, length, get_or, arith}
use Rattle.symbol_base.specs.Ascending.{IsAscending}
use Rattle.label_graphs.specs.Graph.{EdgeData, HasEdge, IsGraph}
use Rattle.label_graphs.specs.Refinement.{KeepsEdges}
use Rattle.label_graphs.specs.Sink.{AreEdgesAmong}
use Rattle.split_spec.specs.Window.{Passes, HasWindow}
use Rattle.split_spec.proofs.EdgeEnds.{source_inside, target_inside}
use Rattle.split_spec.proofs.LooksAhead.{passes_of_parents}
use Rattle.split_spec.proofs.OrderTold.{number_strict, one_place}

-- the states in ascending order, and the graph of the edges among them
pub record IsPart (rows : List (List EdgeData)) (states : List ℕ) (part : List (List EdgeData)) : Type 0 where
  pub order : IsAscending (λ s t. s < t) states
  pub graph : IsGraph part
  pub size : length part ≡ length states
  pub edges : AreEdgesAmong rows states part

module _ (rows part : List (List EdgeData)) (states : List ℕ) (is : IsPart rows states part) where
  -- an edge of the part is one between two of the states
  pub ends_listed : (from block to : ℕ) → HasEdge part from block to → (from < length states) × (to < length states)
  ends_listed from block to edge =
      let size = is.size in
      let from_in = source_inside part from block to edge in
      let to_in = target_inside part from block to is.graph edge in
      (omega (arith, from_in, size), omega (arith, to_in, size))

  -- and one of the graph, between their old numbers
  pub part_keeps : KeepsEdges part rows states
  part_keeps from block to edge =
      let ends = ends_listed from block to edge in
      (is.edges from block to ends.0 ends.1).0 edge

  -- states of the part with one old number are one
  pub one_state : (s t : ℕ) → s < length states → t < length states → get_or states s 0 ≡ get_or states t 0 → s ≡ t
  one_state s t s_in t_in same = one_place (λ s t. s < t) states s t 0 number_strict is.order s_in t_in same

  -- blocks that tell an edge of the graph tell it in the part
  pub part_window : (a r : ℕ) → HasWindow rows a r → HasWindow part a r
  part_window a r window before behind block before_size behind_size one other =
      let up : Passes part before block behind → Passes rows before block behind =
      λ p. passes_of_parents part rows states part_keeps before block behind p in
      let same = window before behind block before_size behind_size (up one) (up other) in
      let here = ends_listed one.from block one.to one.edge in
      let there = ends_listed other.from block other.to other.edge in
      (one_state one.from other.from here.0 there.0 same.0, one_state one.to other.to here.1 there.1 same.1)
