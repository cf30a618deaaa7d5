-- The part of a graph that some of its states are, with new numbers.
use Rattle.std.specs.Prelude.{◌≡◌, ◌↔◌, ℕ, ◌<◌, Bool, false, List, length, slice_index, slice_index_or, filter}
use Rattle.std.specs.List.{range_with_len}
use Rattle.label_graphs.specs.Graph.{EdgeData, HasEdge}

-- the marked states, in ascending order
abbrev pub marked_states : List Bool → List ℕ
marked_states marks = filter (λ state. slice_index_or marks state false) (range_with_len 0 (length marks))

-- The states are the marked ones, in ascending order, and the edges are those among them.
pub record IsKept (rows : List (List EdgeData)) (marks : List Bool) (kept : List (List EdgeData)) : Type 0 where
  pub size : length kept ≡ length (marked_states marks)
  pub edges : (from block to : ℕ) → from < length kept → to < length kept
      → HasEdge kept from block to
      ↔ HasEdge rows (slice_index (marked_states marks) from) block (slice_index (marked_states marks) to)
