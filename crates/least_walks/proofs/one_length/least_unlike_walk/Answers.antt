use Rattle.std.proofs.Common.{◌≡◌, ℕ, ◌+◌, ◌<◌, IfOk, IfSome, IfNone, subst, arith}
use Rattle.least_walks.specs.Graph.{Graph}
use Rattle.least_walks.specs.inside.Layers.{HasUnlikeWalk, IsLeastOfAll}
use Rattle.least_walks.proofs.Places.{told_from_start, none_from_start}
use Rattle.least_walks.proofs.one_length.least_unlike_walk.Goals as goal

pub returns-clause-least : goal.returns-clause-least
returns-clause-least g c =
    let graph : Graph = g.G.ImplicitGraph.graph c.args.graph.now in
    let words : ℕ = g.G.PairGraph.words c.args.graph.now in
    let len : c.args.past + c.args.ahead + 1 ≡ c.args.past + 1 + c.args.ahead = omega arith in
    told_from_start graph words c.args.past c.args.ahead c.least_of_length.result
    (subst (λ n. IfOk c.least_of_length.result (λ o. IfSome o (λ found. IsLeastOfAll graph words c.args.ahead n found.0 found.1.items))) len
    c.least_of_length.ensures.least)

pub returns-clause-none : goal.returns-clause-none
returns-clause-none g c =
    let graph : Graph = g.G.ImplicitGraph.graph c.args.graph.now in
    let words : ℕ = g.G.PairGraph.words c.args.graph.now in
    let len : c.args.past + c.args.ahead + 1 ≡ c.args.past + 1 + c.args.ahead = omega arith in
    none_from_start graph words c.args.past c.args.ahead c.least_of_length.result
    (subst (λ n. IfOk c.least_of_length.result (λ o. IfNone o ((v : ℕ) → v < graph.nodes → HasUnlikeWalk graph words c.args.ahead n v → ⊥))) len
    c.least_of_length.ensures.none)
