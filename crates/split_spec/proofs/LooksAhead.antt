-- A round of splitting makes a window one block longer: two successive edges of the coarser graph fix an edge of the finer one.
use Rattle.std.proofs.Common.{◌≡◌, ℕ, ◌+◌, List, [], ◌∷◌, ◌++◌, length, get_or, take, drop, refl, ap, sym, ◌∙◌, subst, arith}
use Rattle.std.proofs.lemmas.List.{length-take, length_push, take-append-drop}
use Rattle.symbol_base.specs.Walk.{IsWalk}
use Rattle.symbol_base.proofs.Walks.{walk-more, walk-part}
use Rattle.label_graphs.specs.Graph.{EdgeData, HasEdge}
use Rattle.label_graphs.specs.Refinement.{KeepsEdges, DividesEdges}
use Rattle.split_spec.specs.Window.{Passes, HasWindow}

-- by the parents a walk of the finer graph is a walk of the coarser one
pub walk_of_parents : (fine coarse : List (List EdgeData)) (parents : List ℕ) → KeepsEdges fine coarse parents → (blocks : List ℕ) (from to : ℕ)
    → IsWalk (HasEdge fine) from blocks to → IsWalk (HasEdge coarse) (get_or parents from 0) blocks (get_or parents to 0)
walk_of_parents fine coarse parents keeps [] from to walk = ap (λ s. get_or parents s 0) walk
walk_of_parents fine coarse parents keeps (block ∷ blocks) from to walk = (
  get_or parents walk.0 0,
  keeps from block walk.0 walk.1,
  walk_of_parents fine coarse parents keeps blocks walk.0 to walk.2,
)

-- the edge that it passes is an edge of the coarser graph, with the same blocks around it
abbrev pub passes_of_parents : (fine coarse : List (List EdgeData)) (parents : List ℕ) → KeepsEdges fine coarse parents
    → (before : List ℕ) (block : ℕ) (behind : List ℕ) → Passes fine before block behind → Passes coarse before block behind
passes_of_parents fine coarse parents keeps before block behind one = record {
  start = get_or parents one.start 0;
  from = get_or parents one.from 0;
  to = get_or parents one.to 0;
  end = get_or parents one.end 0;
  walk_before = walk_of_parents fine coarse parents keeps before one.start one.from one.walk_before;
  edge = keeps one.from block one.to one.edge;
  walk_behind = walk_of_parents fine coarse parents keeps behind one.to one.end one.walk_behind;
}

-- the same edge with fewer blocks behind it
abbrev front_passes : (rows : List (List EdgeData)) (before : List ℕ) (block : ℕ) (behind : List ℕ) (n : ℕ) → Passes rows before block behind
    → Passes rows before block (take n behind)
front_passes rows before block behind n one =
    let whole : IsWalk (HasEdge rows) one.to (take n behind ++ drop n behind) one.end =
    subst (λ (bs : List ℕ). IsWalk (HasEdge rows) one.to bs one.end) (sym (take-append-drop n behind)) one.walk_behind in
    let parts = walk-part (HasEdge rows) (take n behind) (drop n behind) one.to one.end whole in
    record {
      start = one.start;
      from = one.from;
      to = one.to;
      end = parts.0;
      walk_before = one.walk_before;
      edge = one.edge;
      walk_behind = parts.1;
    }

-- the blocks before the next edge, of which the first is left out
abbrev moved_on : List ℕ → ℕ → List ℕ
moved_on [] block = []
moved_on (first ∷ before) block = before ++ block ∷ []

-- these are as many as the blocks before the edge
moved_size : (before : List ℕ) (block : ℕ) → length (moved_on before block) ≡ length before
moved_size [] block = refl
moved_size (first ∷ before) block = length_push before block ∙ omega arith

-- a walk and the edge behind it as a walk along those blocks
moved_walk : (rows : List (List EdgeData)) (before : List ℕ) (block start from to : ℕ) → IsWalk (HasEdge rows) start before from → HasEdge rows from block to
    → (next : ℕ) × IsWalk (HasEdge rows) next (moved_on before block) to
moved_walk rows [] block start from to walk edge = (to, refl)
moved_walk rows (first ∷ before) block start from to walk edge = (walk.0, walk-more (HasEdge rows) before block walk.0 from to walk.2 edge)

-- the edge behind the edge that is passed
abbrev next_passes : (rows : List (List EdgeData)) (before : List ℕ) (block next : ℕ) (behind : List ℕ) → Passes rows before block (next ∷ behind)
    → Passes rows (moved_on before block) next behind
next_passes rows before block next behind one =
    let moved = moved_walk rows before block one.start one.from one.to one.walk_before one.edge in
    record {
      start = moved.0;
      from = one.to;
      to = one.walk_behind.0;
      end = one.end;
      walk_before = moved.1;
      edge = one.walk_behind.1;
      walk_behind = one.walk_behind.2;
    }

-- two edges of the finer graph that are one edge of the coarser graph have one source
same_source : (fine coarse : List (List EdgeData)) (parents : List ℕ) → KeepsEdges fine coarse parents → DividesEdges fine coarse parents
    → (block u v x y : ℕ) → HasEdge fine u block v → HasEdge fine x block y → get_or parents u 0 ≡ get_or parents x 0
    → get_or parents v 0 ≡ get_or parents y 0 → u ≡ x
same_source fine coarse parents keeps divides block u v x y one other from to =
    let part = divides (get_or parents u 0) block (get_or parents v 0) (keeps u block v one) in
    part.only u v refl refl one ∙ sym (part.only x y (sym from) (sym to) other)

-- the coarser window tells the edge, and the edge behind it
looks_ahead_by : (fine coarse : List (List EdgeData)) (parents : List ℕ) (past ahead : ℕ) → HasWindow coarse past ahead
    → KeepsEdges fine coarse parents → DividesEdges fine coarse parents
    → (before behind : List ℕ) (block : ℕ) → length before ≡ past → length behind ≡ ahead + 1
    → (one other : Passes fine before block behind) → (one.from ≡ other.from) × (one.to ≡ other.to)
looks_ahead_by fine coarse parents past ahead window keeps divides before [] block past_size size one other = absurd (omega (arith, size))
looks_ahead_by fine coarse parents past ahead window keeps divides before (next ∷ behind) block past_size size one other =
    let front : length (take ahead (next ∷ behind)) ≡ ahead = length-take ahead (next ∷ behind) ∙ omega (arith, size) in
    let up : Passes fine before block (next ∷ behind) → Passes coarse before block (take ahead (next ∷ behind)) =
    λ p. front_passes coarse before block (next ∷ behind) ahead (passes_of_parents fine coarse parents keeps before block (next ∷ behind) p) in
    let on : Passes fine before block (next ∷ behind) → Passes coarse (moved_on before block) next behind =
    λ p. passes_of_parents fine coarse parents keeps (moved_on before block) next behind (next_passes fine before block next behind p) in
    let here = window before (take ahead (next ∷ behind)) block past_size front (up one) (up other) in
    let there = window (moved_on before block) behind next (moved_size before block ∙ past_size) (omega (arith, size)) (on one) (on other) in (
      same_source fine coarse parents keeps divides block one.from one.to other.from other.to one.edge other.edge here.0 here.1,
      same_source fine coarse parents keeps divides next one.to one.walk_behind.0 other.to other.walk_behind.0 one.walk_behind.1 other.walk_behind.1
          there.0 there.1,
    )

-- the edge of the finer graph is told by one block more
pub looks_ahead : (fine coarse : List (List EdgeData)) (parents : List ℕ) (past ahead : ℕ) → HasWindow coarse past ahead
    → KeepsEdges fine coarse parents → DividesEdges fine coarse parents → HasWindow fine past (ahead + 1)
looks_ahead fine coarse parents past ahead window keeps divides = looks_ahead_by fine coarse parents past ahead window keeps divides
