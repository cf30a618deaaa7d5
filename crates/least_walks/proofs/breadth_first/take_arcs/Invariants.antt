use Rattle.std.proofs.Common.{◌≡◌, ℕ, length}
use Rattle.least_walks.specs.inside.Found.{Searched, Half, KeepsFront}
use Rattle.least_walks.proofs.breadth_first.take_arcs.Given as goal

abbrev pub invariant-loop-k : goal.invariant-loop-k
invariant-loop-k g l = record {
  sized : length l.marks ≡ (g.G.ImplicitGraph.graph l.graph).nodes;
  half : (start : ℕ) → Searched (g.G.ImplicitGraph.graph l.graph) start l.fn.found.items l.fn.marks l.at
      → Half (g.G.ImplicitGraph.graph l.graph) start l.room.items l.found.items l.marks l.at l.k;
  front : KeepsFront l.fn.found.items l.found.items;
}
