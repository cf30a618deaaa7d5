use Rattle.std.proofs.Common.{◌≡◌, ℕ, ◌+◌, ◌<◌, List, ◌++◌, length}
use Rattle.least_walks.specs.inside.Layers.{HasUnlikeWalk, IsLeastFrom}
use Rattle.least_walks.proofs.one_length.choose.Given as goal

abbrev pub invariant-loop-done : goal.invariant-loop-done
invariant-loop-done g l = record {
  inside : l.at < (g.G.ImplicitGraph.graph l.graph).nodes;
  begins : (left : ℕ) → left + l.done ≡ length l.layers
      → HasUnlikeWalk (g.G.ImplicitGraph.graph l.graph) (g.G.PairGraph.words l.graph) l.ahead left l.at;
  best : (left : ℕ) → left + l.done ≡ length l.layers → (rest : List ℕ)
      → IsLeastFrom (g.G.ImplicitGraph.graph l.graph) (g.G.PairGraph.words l.graph) l.ahead left l.at rest
      → IsLeastFrom (g.G.ImplicitGraph.graph l.graph) (g.G.PairGraph.words l.graph) l.ahead (length l.layers) l.start (l.labels.items ++ rest);
}
